-- Lists of which each element keeps a limit: descriptors, children, pipes, files and processes.
use Rattle.std.proofs.Common.{◌≡◌, ℕ, zero, suc, ◌+◌, ◌-◌, ◌<◌, ◌≤◌, ◌⊎◌, inl, inr, Bool, true, false, cond, List, [], ◌∷◌, ◌++◌, length, map, filter, drop, take, replicate, slice_get, slice_set, Option, Some, None, refl, sym, ap, ◌∙◌, subst, arith, length-append}
use Rattle.std.specs.List.{AllByRecursion}
use Rattle.std.proofs.lemmas.Option.{slice_get_within}
use Rattle.std.proofs.lemmas.List.{length-take, length-drop, length-set}
use Rattle.disk_model.specs.Files.{changed, loser, patched, with_bytes, with_name, without}
use Rattle.disk_model.specs.declared.change.Change.{Change}
use Rattle.disk_model.specs.declared.change.Change.TheVariants as change
use Rattle.disk_model.specs.declared.change.NamedFile.{NamedFile}
pub use Rattle.disk_model.proofs.Lists.{each_get, each_more, each_append}
use Rattle.disk_model.proofs.Lists.{set_same, each_set, each_take, each_drop}
use Rattle.disk_model.proofs.Tidy.{patched_short}
use Rattle.kernel_model.proofs.Ends.{with_length}
use Rattle.kernel_model.specs.Limits.{RiseWithin}
use Rattle.kernel_model.specs.Rows.{descriptor_at}
use Rattle.kernel_model.specs.State.{Process, PipeState, process_at, put_process, new_pipe, with_pipe, with_end, without_end, stepped, all_stepped}
use Rattle.kernel_model.specs.Steps.{set_slots}
use Rattle.kernel_model.specs.declared.descriptor.Descriptor.{Descriptor}
use Rattle.kernel_model.specs.declared.descriptor.Descriptor.TheVariants.{Tape, Terminal, File, Pipe}
use Rattle.kernel_model.specs.declared.descriptor.PipeEnd.{PipeEnd}
use Rattle.kernel_model.specs.declared.descriptor.PipeEnd.TheVariants.{Read, Write}
use Rattle.kernel_model.specs.declared.effect.PipeStep.TheVariants as pipe_step
use Rattle.kernel_model.specs.declared.effect.Slot.{Slot}

-- ---- lists

-- an element of a list of which one was set is that one, or was there before
get_set : {A : Type 0} (xs : List A) (i j : ℕ) (x y : A) → slice_get (slice_set xs i x) j ≡ Some y → ((j ≡ i) × (x ≡ y)) ⊎ (slice_get xs j ≡ Some y)
get_set [] i j x y e = inr e
get_set (z ∷ zs) zero zero x y e = let is : x ≡ y = cc in inl (refl, is)
get_set (z ∷ zs) zero (suc j) x y e = inr e
get_set (z ∷ zs) (suc i) zero x y e = inr e
get_set (z ∷ zs) (suc i) (suc j) x y e = elim (get_set zs i j x y e) [ inl t ↦ inl (ap suc t.0, t.1) | inr t ↦ inr t ]

-- an element of two lists is one of the first, or of the second
get_append : {A : Type 0} (xs ys : List A) (i : ℕ) (y : A) → slice_get (xs ++ ys) i ≡ Some y → (slice_get xs i ≡ Some y) ⊎ ((k : ℕ) × (slice_get ys k ≡ Some y))
get_append [] ys i y e = inr (i, e)
get_append (x ∷ xs) ys zero y e = inl e
get_append (x ∷ xs) ys (suc i) y e = get_append xs ys i y e

-- ---- processes

pub put_length : (ps : List Process) (pid : ℕ) (p : Process) → length (put_process ps pid p) ≡ length ps
put_length ps zero p = refl
put_length ps (suc k) p = length-set ps k p

-- a process that is put where it stands changes nothing
pub put_same : (ps : List Process) (p : ℕ) (x : Process) → process_at ps p ≡ Some x → put_process ps p x ≡ ps
put_same ps zero x e = refl
put_same ps (suc i) x e = set_same ps i x e

pub at_put : (ps : List Process) (pid j : ℕ) (p q : Process) → process_at (put_process ps pid p) j ≡ Some q → ((j ≡ pid) × (p ≡ q)) ⊎ (process_at ps j ≡ Some q)
at_put ps zero j p q e = inr e
at_put ps (suc k) zero p q e = inr e
at_put ps (suc k) (suc j) p q e = elim (get_set ps k j p q e) [ inl t ↦ inl (ap suc t.0, t.1) | inr t ↦ inr t ]

pub at_append : (ps qs : List Process) (j : ℕ) (q : Process) → process_at (ps ++ qs) j ≡ Some q → (process_at ps j ≡ Some q) ⊎ ((k : ℕ) × (slice_get qs k ≡ Some q))
at_append ps qs zero q e = inl e
at_append ps qs (suc j) q e = get_append ps qs j q e

-- the number of a process that is there is at most the number of processes
pub at_below : (ps : List Process) (pid : ℕ) (p : Process) → process_at ps pid ≡ Some p → pid ≤ length ps
at_below ps zero p e = omega arith
at_below ps (suc k) p e = slice_get_within ps k p e

-- what holds of each process holds of the one of a number, and of each where one becomes another
pub each_process : (P : Process → Type 0) (ps : List Process) (pid : ℕ) (p : Process) → AllByRecursion P ps → process_at ps pid ≡ Some p → P p
each_process P ps zero p h e = absurd (let no : ⊥ = cc in no)
each_process P ps (suc k) p h e = each_get P ps k p h e

pub each_put : (P : Process → Type 0) (ps : List Process) (pid : ℕ) (p : Process) → P p → AllByRecursion P ps → AllByRecursion P (put_process ps pid p)
each_put P ps zero p is h = h
each_put P ps (suc k) p is h = each_set P ps k p is h

-- ---- children

rise_lower : (low above high : ℕ) (ns : List ℕ) → low ≤ above → RiseWithin above high ns → RiseWithin low high ns
rise_lower low above high [] le h = tt
rise_lower low above high (n ∷ ns) le h = (omega (arith, h.0), h.1, h.2)

-- below a higher bound they rise too
pub rise_higher : (low high top : ℕ) (ns : List ℕ) → high ≤ top → RiseWithin low high ns → RiseWithin low top ns
rise_higher low high top [] le h = tt
rise_higher low high top (n ∷ ns) le h = (h.0, omega (arith, h.1), rise_higher n high top ns le h.2)

-- so do some of them
pub rise_filter : (f : ℕ → Bool) (low high : ℕ) (ns : List ℕ) → RiseWithin low high ns → RiseWithin low high (filter f ns)
rise_filter f low high [] h = tt
rise_filter f low high (n ∷ ns) h = by (f n) (rise_filter f n high ns h.2)
  where
    by : (b : Bool) → RiseWithin n high (filter f ns) → RiseWithin low high (cond b (n ∷ filter f ns) (filter f ns))
    by true rest = (h.0, h.1, rest)
    by false rest = rise_lower low n high (filter f ns) (omega (arith, h.0)) rest

-- and one more, above all of them
pub rise_more : (low high : ℕ) (ns : List ℕ) → low ≤ high → RiseWithin low high ns → RiseWithin low (high + 1) (ns ++ (high + 1) ∷ [])
rise_more low high [] le h = (omega (arith, le), omega arith, tt)
rise_more low high (n ∷ ns) le h = (h.0, omega (arith, h.1), rise_more n high ns h.1 h.2)

-- ---- descriptors

-- a descriptor that stands for a file or a tape stands for one of so many
abbrev pub IsThere : ℕ → ℕ → Option Descriptor → Type 0
IsThere files tapes (Some (File file offset writes)) = file < files
IsThere files tapes (Some (Tape t)) = t < tapes
IsThere files tapes (Some (Terminal t)) = Unit {0}
IsThere files tapes (Some (Pipe end)) = Unit {0}
IsThere files tapes None = Unit {0}

abbrev pub AreThere : ℕ → ℕ → List (Option Descriptor) → Type 0
AreThere files tapes ds = AllByRecursion (IsThere files tapes) ds

there_more : (files more tapes : ℕ) → files ≤ more → (d : Option Descriptor) → IsThere files tapes d → IsThere more tapes d
there_more files more tapes le (Some (File file offset writes)) h = omega (arith, h)
there_more files more tapes le (Some (Tape t)) h = h
there_more files more tapes le (Some (Terminal t)) h = tt
there_more files more tapes le (Some (Pipe end)) h = tt
there_more files more tapes le None h = tt

-- among more files they still do
pub are_there_more : (files more tapes : ℕ) → files ≤ more → (ds : List (Option Descriptor)) → AreThere files tapes ds → AreThere more tapes ds
are_there_more files more tapes le ds h = each_more (IsThere files tapes) (IsThere more tapes) (there_more files more tapes le) ds h

pub free_there : (files tapes n : ℕ) → AreThere files tapes (replicate n None)
free_there files tapes zero = tt
free_there files tapes (suc n) = (tt, free_there files tapes n)

pub closed_there : (files tapes : ℕ) (ds : List (Option Descriptor)) → AreThere files tapes (map (λ (d : Option Descriptor). None) ds)
closed_there files tapes [] = tt
closed_there files tapes (d ∷ ds) = (tt, closed_there files tapes ds)

-- what holds of each descriptor, and of none, holds of what is found by number
pub each_at : (P : Option Descriptor → Type 0) → P None → (ds : List (Option Descriptor)) (fd : ℕ) → AllByRecursion P ds → P (descriptor_at ds fd)
each_at P none [] fd h = none
each_at P none (d ∷ ds) zero h = h.0
each_at P none (d ∷ ds) (suc fd) h = each_at P none ds fd h.1

pub there_at : (files tapes : ℕ) (ds : List (Option Descriptor)) (fd : ℕ) → AreThere files tapes ds → IsThere files tapes (descriptor_at ds fd)
there_at files tapes ds fd h = each_at (IsThere files tapes) tt ds fd h

-- what holds of each descriptor, and of each that is set, holds of each then
pub each_slot : (P : Option Descriptor → Type 0) (slots : List Slot) (ds : List (Option Descriptor)) → AllByRecursion (λ (slot : Slot). P slot.holds) slots
    → AllByRecursion P ds → AllByRecursion P (set_slots ds slots)
each_slot P [] ds h hs = hs
each_slot P (slot ∷ slots) ds h hs = each_slot P slots (slice_set ds slot.fd slot.holds) h.1 (each_set P ds slot.fd slot.holds h.0 hs)

abbrev pub SetThere : ℕ → ℕ → List Slot → Type 0
SetThere files tapes slots = AllByRecursion (λ (slot : Slot). IsThere files tapes slot.holds) slots

pub set_there : (files tapes : ℕ) (slots : List Slot) (ds : List (Option Descriptor)) → SetThere files tapes slots → AreThere files tapes ds
    → AreThere files tapes (set_slots ds slots)
set_there files tapes slots ds h hs = each_slot (IsThere files tapes) slots ds h hs

pub slots_length : (slots : List Slot) (ds : List (Option Descriptor)) → length (set_slots ds slots) ≡ length ds
slots_length [] ds = refl
slots_length (slot ∷ slots) ds = slots_length slots (slice_set ds slot.fd slot.holds) ∙ length-set ds slot.fd slot.holds

-- ---- pipes

-- no byte was read that was not written, and at most 4,096 more were written than read
pub record IsHeld (p : PipeState) : Type 0 where
  pub taken : p.taken ≤ length p.written
  pub most : length p.written ≤ p.taken + 4096

abbrev pub AreHeld : List PipeState → Type 0
AreHeld pipes = AllByRecursion IsHeld pipes

-- one pipe, if it is there, becomes another
pub with_each : (P Q : PipeState → Type 0) (pipes : List PipeState) (k : ℕ) (o : Option PipeState) (f : PipeState → PipeState) → ((p : PipeState) → P p → Q p)
    → ((p : PipeState) → o ≡ Some p → P p → Q (f p)) → slice_get pipes k ≡ o → AllByRecursion P pipes → AllByRecursion Q (with_pipe pipes k o f)
with_each P Q pipes k None f others one e h = each_more P Q others pipes h
with_each P Q pipes k (Some p) f others one e h = each_set Q pipes k (f p) (one p refl (each_get P pipes k p h e)) (each_more P Q others pipes h)

with_held : (pipes : List PipeState) (k : ℕ) (f : PipeState → PipeState) → ((p : PipeState) → slice_get pipes k ≡ Some p → IsHeld p → IsHeld (f p))
    → AreHeld pipes → AreHeld (with_pipe pipes k (slice_get pipes k) f)
with_held pipes k f keeps h = with_each IsHeld IsHeld pipes k (slice_get pipes k) f (λ p q. q) keeps refl h

-- how the pipes stand: so many, and each holds no more than it may
pub record PipesStand (number : ℕ) (pipes : List PipeState) : Type 0 where
  pub count : length pipes ≡ number
  pub held : AreHeld pipes

with_stand : (count : ℕ) (pipes : List PipeState) (k : ℕ) (f : PipeState → PipeState) → ((p : PipeState) → IsHeld p → IsHeld (f p))
    → PipesStand count pipes → PipesStand count (with_pipe pipes k (slice_get pipes k) f)
with_stand count pipes k f keeps h = record {
  count = with_length pipes k (slice_get pipes k) f ∙ h.count;
  held = with_held pipes k f (λ p e q. keeps p q) h.held;
}

add_stands : (count : ℕ) (pipes : List PipeState) (end : PipeEnd) → PipesStand count pipes → PipesStand count (with_end pipes end)
add_stands count pipes (Read k) h = with_stand count pipes k _ (λ p q. record { taken = q.taken; most = q.most }) h
add_stands count pipes (Write k) h = with_stand count pipes k _ (λ p q. record { taken = q.taken; most = q.most }) h

drop_stands : (count : ℕ) (pipes : List PipeState) (end : PipeEnd) → PipesStand count pipes → PipesStand count (without_end pipes end)
drop_stands count pipes (Read k) h = with_stand count pipes k _ (λ p q. record { taken = q.taken; most = q.most }) h
drop_stands count pipes (Write k) h = with_stand count pipes k _ (λ p q. record { taken = q.taken; most = q.most }) h

-- ends that are opened or closed leave what pipes hold
pub adds_stand : (count : ℕ) (ends : List PipeEnd) (pipes : List PipeState) → PipesStand count pipes → PipesStand count (all_stepped pipes (map pipe_step.Add ends))
adds_stand count [] pipes h = h
adds_stand count (end ∷ ends) pipes h = adds_stand count ends (with_end pipes end) (add_stands count pipes end h)

pub drops_stand : (count : ℕ) (ends : List PipeEnd) (pipes : List PipeState) → PipesStand count pipes → PipesStand count (all_stepped pipes (map pipe_step.Drop ends))
drops_stand count [] pipes h = h
drops_stand count (end ∷ ends) pipes h = drops_stand count ends (without_end pipes end) (drop_stands count pipes end h)

pub open_stands : (count : ℕ) (pipes : List PipeState) → PipesStand count pipes → PipesStand (count + 1) (stepped pipes pipe_step.Open)
open_stands count pipes h = record {
  count = omega (arith, length-append pipes (new_pipe ∷ []), h.count);
  held = each_append IsHeld pipes (new_pipe ∷ []) h.held (record { taken = omega arith; most = omega arith }, tt);
}

-- bytes are put for which there is room
pub put_stands : (count : ℕ) (pipes : List PipeState) (k : ℕ) (bytes : List ℕ) (p : PipeState) → slice_get pipes k ≡ Some p
    → PipesStand count pipes → PipesStand count (stepped pipes (pipe_step.Put k (take (4096 - length (drop p.taken p.written)) bytes)))
put_stands count pipes k bytes p e h =
    let taken = take (4096 - length (drop p.taken p.written)) bytes in
    record {
      count = with_length pipes k (slice_get pipes k) (λ p. record p { written = p.written ++ taken }) ∙ h.count;
      held = with_held pipes k (λ p. record p { written = p.written ++ taken })
          (λ q at held. let is : q ≡ p = cc in subst (λ (r : PipeState). IsHeld (record r { written = r.written ++ taken })) (sym is)
          (let own = subst IsHeld is held in
          record {
            taken = omega (arith, own.taken, length-append p.written taken);
            most = omega (arith, own.taken, own.most, length-append p.written taken, length-drop p.taken p.written, length-take (4096 - length (drop p.taken p.written)) bytes);
          })) h.held;
    }

-- bytes are taken that it holds
pub take_stands : (count : ℕ) (pipes : List PipeState) (k n : ℕ) (p : PipeState) → slice_get pipes k ≡ Some p
    → PipesStand count pipes → PipesStand count (stepped pipes (pipe_step.Take k (length (take n (drop p.taken p.written)))))
take_stands count pipes k n p e h =
    let some = length (take n (drop p.taken p.written)) in
    record {
      count = with_length pipes k (slice_get pipes k) (λ p. record p { taken = p.taken + some }) ∙ h.count;
      held = with_held pipes k (λ p. record p { taken = p.taken + some })
          (λ q at held. let is : q ≡ p = cc in subst (λ (r : PipeState). IsHeld (record r { taken = r.taken + some })) (sym is)
          (let own = subst IsHeld is held in
          record {
            taken = omega (arith, own.taken, length-drop p.taken p.written, length-take n (drop p.taken p.written));
            most = omega (arith, own.most);
          })) h.held;
    }

-- ---- files

pub record IsBrief (f : NamedFile) : Type 0 where
  pub some : 1 ≤ length f.name
  pub name : length f.name ≤ 32
  pub bytes : length f.bytes ≤ 16384

-- at most 32 files, each with a short name and few bytes
pub record FilesStand (files : List NamedFile) : Type 0 where
  pub few : length files ≤ 32
  pub each : AllByRecursion IsBrief files

-- a change that leaves them so
abbrev pub LeavesFew : List NamedFile → Change → Type 0
LeavesFew files (change.Create name) = (1 ≤ length name) × (length name ≤ 32) × (length files < 32)
LeavesFew files (change.Write place offset bytes) = offset + length bytes ≤ 16384
LeavesFew files (change.Empty place) = Unit {0}
LeavesFew files (change.Remove place) = Unit {0}
LeavesFew files (change.Rename place name) = (1 ≤ length name) × (length name ≤ 32)

with_brief : (files : List NamedFile) (place : ℕ) (o : Option NamedFile) (f : List ℕ → List ℕ) → slice_get files place ≡ o
    → ((old : List ℕ) → length old ≤ 16384 → length (f old) ≤ 16384) → FilesStand files → FilesStand (with_bytes files place o f)
with_brief files place None f e short h = h
with_brief files place (Some file) f e short h =
    let one = each_get IsBrief files place file h.each e in
    let new : NamedFile = record { name = file.name; bytes = f file.bytes } in
    record {
      few = omega (arith, h.few, length-set files place new);
      each = each_set IsBrief files place new (record { some = one.some; name = one.name; bytes = short file.bytes one.bytes }) h.each;
    }

without_brief : (files : List NamedFile) (o : Option ℕ) → FilesStand files → FilesStand (without files o)
without_brief files None h = h
without_brief files (Some k) h = record {
  few = omega (arith, h.few, length-append (take k files) (drop (suc k) files), length-take k files, length-drop (suc k) files);
  each = each_append IsBrief (take k files) (drop (suc k) files) (each_take IsBrief k files h.each) (each_drop IsBrief (suc k) files h.each);
}

named_brief : (files : List NamedFile) (place : ℕ) (o : Option NamedFile) (name : List ℕ) → slice_get files place ≡ o
    → 1 ≤ length name → length name ≤ 32 → FilesStand files → FilesStand (with_name files place o name)
named_brief files place None name e some most h = h
named_brief files place (Some file) name e some most h =
    let one = each_get IsBrief files place file h.each e in
    let new : NamedFile = record { name = name; bytes = file.bytes } in
    record {
      few = omega (arith, h.few, length-set files place new);
      each = each_set IsBrief files place new (record { some = some; name = most; bytes = one.bytes }) h.each;
    }

pub changed_stand : (files : List NamedFile) (c : Change) → LeavesFew files c → FilesStand files → FilesStand (changed files c)
changed_stand files (change.Create name) few h = record {
  few = omega (arith, few.2, length-append files (record { name = name; bytes = [] } ∷ []));
  each = each_append IsBrief files (record { name = name; bytes = [] } ∷ []) h.each (record { some = few.0; name = few.1; bytes = omega arith }, tt);
}
changed_stand files (change.Write place offset bytes) fits h =
    with_brief files place (slice_get files place) (λ old. patched old offset bytes) refl (λ old short. patched_short old offset bytes fits short) h
changed_stand files (change.Empty place) fits h = with_brief files place (slice_get files place) (λ old. []) refl (λ old short. omega arith) h
changed_stand files (change.Remove place) none h = without_brief files (Some place) h
changed_stand files (change.Rename place name) short h =
    let o = slice_get files place in
    without_brief (with_name files place o name) (loser files o name) (named_brief files place o name refl short.0 short.1 h)
