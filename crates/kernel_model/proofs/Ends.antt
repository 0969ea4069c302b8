-- How the number of an end of a pipe, and the number of descriptors that stand for it, change.
use Rattle.std.proofs.Common.{◌≡◌, ℕ, zero, suc, ◌+◌, ◌-◌, ◌<◌, ◌≤◌, ◌==◌, Bool, true, false, List, [], ◌∷◌, ◌++◌, length, map, slice_get, slice_set, get_or, drop, Option, Some, None, is_none, refl, sym, ap, ◌∙◌, subst, arith}
use Rattle.std.specs.Prelude.{if◌then◌else◌, option_map, unwrap_or}
use Rattle.std.specs.List.{position}
use Rattle.std.proofs.lemmas.Bool.{eqb-true, eqb-false, ne_eqb}
use Rattle.std.proofs.lemmas.Option.{slice_get_within, slice_get_past, slice_get-get_or}
use Rattle.std.proofs.lemmas.List.{length-append, length-set, length-drop, get_or-drop}
use Rattle.std.proofs.lemmas.List.Quantifiers.{position-Some}
use Rattle.disk_model.proofs.Lists.{get_same, get_other, slice_get-last}
use Rattle.kernel_model.specs.Ends.{is_same_end, stands_for, count_among, count_of, count_held}
use Rattle.kernel_model.specs.Rows.{ends_of, descriptor_at, free_descriptor, free_after}
use Rattle.kernel_model.specs.State.{Process, PipeState, process_at, put_process, new_pipe, with_pipe, with_end, without_end, stepped, all_stepped}
use Rattle.kernel_model.specs.declared.descriptor.Descriptor.{Descriptor}
use Rattle.kernel_model.specs.declared.descriptor.Descriptor.TheVariants.{Tape, Terminal, File, Pipe}
use Rattle.kernel_model.specs.declared.descriptor.PipeEnd.{PipeEnd}
use Rattle.kernel_model.specs.declared.descriptor.PipeEnd.TheVariants.{Read, Write}
use Rattle.kernel_model.specs.declared.effect.PipeStep.{PipeStep}
use Rattle.kernel_model.specs.declared.effect.PipeStep.TheVariants.{Open, Put, Take, Add, Drop}

-- ---- descriptors

-- 1 for a descriptor that stands for the end, 0 for another
abbrev pub weight : PipeEnd → Option Descriptor → ℕ
weight f d = if stands_for f d then 1 else 0

-- 1 for the end itself, 0 for another
abbrev pub same : PipeEnd → PipeEnd → ℕ
same f g = if is_same_end f g then 1 else 0

-- how many of these are the end
abbrev pub count_ends : PipeEnd → List PipeEnd → ℕ
count_ends f [] = 0
count_ends f (g ∷ gs) = same f g + count_ends f gs

pub count_ends_of : (f : PipeEnd) (ds : List (Option Descriptor)) → count_ends f (ends_of ds) ≡ count_among f ds
count_ends_of f [] = refl
count_ends_of f (Some (Pipe g) ∷ ds) = ap (λ n. same f g + n) (count_ends_of f ds)
count_ends_of f (Some (Tape t) ∷ ds) = omega (arith, count_ends_of f ds)
count_ends_of f (Some (Terminal t) ∷ ds) = omega (arith, count_ends_of f ds)
count_ends_of f (Some (File file offset writes) ∷ ds) = omega (arith, count_ends_of f ds)
count_ends_of f (None ∷ ds) = omega (arith, count_ends_of f ds)

-- one descriptor is another
pub among_set : (f : PipeEnd) (ds : List (Option Descriptor)) (fd : ℕ) (old new : Option Descriptor) → slice_get ds fd ≡ Some old
    → count_among f (slice_set ds fd new) + weight f old ≡ count_among f ds + weight f new
among_set f [] fd old new e = cc
among_set f (d ∷ ds) zero old new e = let is : d ≡ old = cc in omega (arith, ap (weight f) is)
among_set f (d ∷ ds) (suc fd) old new e = omega (arith, among_set f ds fd old new e)

-- one descriptor is another, and neither stands for the end
pub among_kept : (f : PipeEnd) (ds : List (Option Descriptor)) (fd : ℕ) (new : Option Descriptor) → weight f (descriptor_at ds fd) ≡ 0 → weight f new ≡ 0
    → count_among f (slice_set ds fd new) ≡ count_among f ds
among_kept f [] fd new a b = refl
among_kept f (d ∷ ds) zero new a b = omega (arith, a, b)
among_kept f (d ∷ ds) (suc fd) new a b = ap (λ n. weight f d + n) (among_kept f ds fd new a b)

is_there : (o : Option (Option Descriptor)) (d : Descriptor) → unwrap_or o None ≡ Some d → o ≡ Some (Some d)
is_there None d e = cc
is_there (Some x) d e = ap (λ (y : Option Descriptor). Some y) e

pub descriptor_there : (ds : List (Option Descriptor)) (fd : ℕ) (d : Descriptor) → descriptor_at ds fd ≡ Some d → slice_get ds fd ≡ Some (Some d)
descriptor_there ds fd d e = is_there (slice_get ds fd) d e

none_is : (d : Option Descriptor) → is_none d ≡ true → d ≡ None
none_is None e = refl
none_is (Some d) e = cc

-- a descriptor that is found free is there, and free
pub free_is : (ds : List (Option Descriptor)) (fd : ℕ) → free_descriptor ds ≡ Some fd → slice_get ds fd ≡ Some None
free_is ds fd e =
    let found = position-Some is_none ds fd None e in
    slice_get-get_or ds fd None found.0 ∙ ap (λ (y : Option Descriptor). Some y) (none_is (get_or ds fd None) found.1)

-- so is the next one
pub record IsAfter (ds : List (Option Descriptor)) (fd after : ℕ) : Type 0 where
  pub later : fd < after
  pub free : slice_get ds after ≡ Some None

after_from : (ds : List (Option Descriptor)) (fd after : ℕ) (o : Option ℕ) → position is_none (drop (fd + 1) ds) ≡ o
    → option_map (λ further. fd + 1 + further) o ≡ Some after → IsAfter ds fd after
after_from ds fd after None found e = cc
after_from ds fd after (Some further) found e =
    let at : fd + 1 + further ≡ after = cc in
    let is = position-Some is_none (drop (fd + 1) ds) further None found in
    let within : fd + 1 + further < length ds = omega (arith, is.0, length-drop (fd + 1) ds) in
    let free : slice_get ds (fd + 1 + further) ≡ Some None =
    slice_get-get_or ds (fd + 1 + further) None within
    ∙ ap (λ (y : Option Descriptor). Some y) (sym (get_or-drop (fd + 1) ds further None) ∙ none_is (get_or (drop (fd + 1) ds) further None) is.1) in
    record { later = omega (arith, at); free = subst (λ (j : ℕ). slice_get ds j ≡ Some None) at free }

pub after_is : (ds : List (Option Descriptor)) (fd after : ℕ) → free_after ds (Some fd) ≡ Some after → IsAfter ds fd after
after_is ds fd after e = after_from ds fd after (position is_none (drop (fd + 1) ds)) refl e

-- ---- processes

pub held_append : (f : PipeEnd) (ps qs : List Process) → count_held f (ps ++ qs) ≡ count_held f ps + count_held f qs
held_append f [] qs = omega arith
held_append f (p ∷ ps) qs = omega (arith, held_append f ps qs)

held_set : (f : PipeEnd) (ps : List Process) (i : ℕ) (p q : Process) → slice_get ps i ≡ Some p
    → count_held f (slice_set ps i q) + count_of f p ≡ count_held f ps + count_of f q
held_set f [] i p q e = cc
held_set f (x ∷ ps) zero p q e = let is : x ≡ p = cc in omega (arith, ap (count_of f) is)
held_set f (x ∷ ps) (suc i) p q e = omega (arith, held_set f ps i p q e)

held_within : (f : PipeEnd) (ps : List Process) (i : ℕ) (p : Process) → slice_get ps i ≡ Some p → count_of f p ≤ count_held f ps
held_within f [] i p e = cc
held_within f (x ∷ ps) zero p e = let is : x ≡ p = cc in omega (arith, ap (count_of f) is)
held_within f (x ∷ ps) (suc i) p e = omega (arith, held_within f ps i p e)

-- one process is another
pub held_put : (f : PipeEnd) (ps : List Process) (pid : ℕ) (p q : Process) → process_at ps pid ≡ Some p
    → count_held f (put_process ps pid q) + count_of f p ≡ count_held f ps + count_of f q
held_put f ps zero p q e = cc
held_put f ps (suc i) p q e = held_set f ps i p q e

-- the descriptors of one process are among those of all
pub held_at : (f : PipeEnd) (ps : List Process) (pid : ℕ) (p : Process) → process_at ps pid ≡ Some p → count_of f p ≤ count_held f ps
held_at f ps zero p e = cc
held_at f ps (suc i) p e = held_within f ps i p e

-- ---- pipes

-- a number of a pipe that may be there; 0 where none is
abbrev pub of_pipe : (PipeState → ℕ) → Option PipeState → ℕ
of_pipe c None = 0
of_pipe c (Some p) = c p

-- the number of an end, as the pipes have it
abbrev pub number_at : PipeEnd → List PipeState → ℕ
number_at (Read k) pipes = of_pipe (λ p. p.readers) (slice_get pipes k)
number_at (Write k) pipes = of_pipe (λ p. p.writers) (slice_get pipes k)

-- the number of an end's pipe
abbrev pub pipe_of : PipeEnd → ℕ
pipe_of (Read k) = k
pipe_of (Write k) = k

-- an end whose number is not 0 is one of a pipe that is there
of_pipe_below : (c : PipeState → ℕ) (pipes : List PipeState) (k : ℕ) (o : Option PipeState) → slice_get pipes k ≡ o → 1 ≤ of_pipe c o → k < length pipes
of_pipe_below c pipes k None e h = absurd (omega (arith, h))
of_pipe_below c pipes k (Some p) e h = slice_get_within pipes k p e

pub number_below : (f : PipeEnd) (pipes : List PipeState) → 1 ≤ number_at f pipes → pipe_of f < length pipes
number_below (Read k) pipes h = of_pipe_below (λ p. p.readers) pipes k (slice_get pipes k) refl h
number_below (Write k) pipes h = of_pipe_below (λ p. p.writers) pipes k (slice_get pipes k) refl h

-- another descriptor stays as it was
pub free_still : (ds : List (Option Descriptor)) (fd after : ℕ) (new : Option Descriptor) → IsAfter ds fd after → slice_get (slice_set ds fd new) after ≡ Some None
free_still ds fd after new is = get_other ds fd after new (λ (e : after ≡ fd). omega (arith, is.later, e)) ∙ is.free

-- a number of the pipe at place j, once pipe k is what g makes of it, where g makes h of the number
with_number : (c : PipeState → ℕ) (g : PipeState → PipeState) (h : ℕ → ℕ) → ((p : PipeState) → c (g p) ≡ h (c p))
    → (pipes : List PipeState) (k j : ℕ) (o : Option PipeState) → slice_get pipes k ≡ o → (o ≡ None → h 0 ≡ 0)
    → of_pipe c (slice_get (with_pipe pipes k o g) j) ≡ (if j == k then h (of_pipe c (slice_get pipes j)) else of_pipe c (slice_get pipes j))
with_number c g h makes pipes k j None e none =
    elim (j == k) as (λ b. (j == k) ≡ b → of_pipe c (slice_get pipes j) ≡ (if b then h (of_pipe c (slice_get pipes j)) else of_pipe c (slice_get pipes j))) [
      | true ↦ λ t.
          let empty : slice_get pipes j ≡ None = ap (slice_get pipes) (eqb-true j k t) ∙ e in
          subst (λ (o : Option PipeState). of_pipe c o ≡ h (of_pipe c o)) (sym empty) (sym (none refl))
      | false ↦ λ t. refl
    ] refl
with_number c g h makes pipes k j (Some p) e none =
    elim (j == k) as (λ b. (j == k) ≡ b → of_pipe c (slice_get (slice_set pipes k (g p)) j) ≡ (if b then h (of_pipe c (slice_get pipes j)) else of_pipe c (slice_get pipes j))) [
      | true ↦ λ t.
          let here : slice_get pipes j ≡ Some p = ap (slice_get pipes) (eqb-true j k t) ∙ e in
          let made : slice_get (slice_set pipes k (g p)) j ≡ Some (g p) = ap (slice_get (slice_set pipes k (g p))) (eqb-true j k t) ∙ get_same pipes k (g p) p e in
          ap (of_pipe c) made ∙ makes p ∙ ap (λ (o : Option PipeState). h (of_pipe c o)) (sym here)
      | false ↦ λ t. ap (of_pipe c) (get_other pipes k j (g p) (eqb-false j k t))
    ] refl

if_both : (b : Bool) (n : ℕ) → (if b then n else n) ≡ n
if_both true n = refl
if_both false n = refl

if_more : (b : Bool) (n : ℕ) → (if b then n + 1 else n) ≡ n + (if b then 1 else 0)
if_more true n = refl
if_more false n = omega arith

if_less : (b : Bool) (n : ℕ) → (if b then n - 1 else n) ≡ n - (if b then 1 else 0)
if_less true n = refl
if_less false n = omega arith

-- a step by which bytes move
with_kept : (c : PipeState → ℕ) (g : PipeState → PipeState) → ((p : PipeState) → c (g p) ≡ c p)
    → (pipes : List PipeState) (k j : ℕ) → of_pipe c (slice_get (with_pipe pipes k (slice_get pipes k) g) j) ≡ of_pipe c (slice_get pipes j)
with_kept c g makes pipes k j =
    with_number c g (λ n. n) makes pipes k j (slice_get pipes k) refl (λ e. refl) ∙ if_both (j == k) (of_pipe c (slice_get pipes j))

pub put_number : (f : PipeEnd) (pipes : List PipeState) (k : ℕ) (bytes : List ℕ) → number_at f (stepped pipes (Put k bytes)) ≡ number_at f pipes
put_number (Read j) pipes k bytes = with_kept (λ p. p.readers) (λ p. record p { written = p.written ++ bytes }) (λ p. refl) pipes k j
put_number (Write j) pipes k bytes = with_kept (λ p. p.writers) (λ p. record p { written = p.written ++ bytes }) (λ p. refl) pipes k j

pub take_number : (f : PipeEnd) (pipes : List PipeState) (k count : ℕ) → number_at f (stepped pipes (Take k count)) ≡ number_at f pipes
take_number (Read j) pipes k count = with_kept (λ p. p.readers) (λ p. record p { taken = p.taken + count }) (λ p. refl) pipes k j
take_number (Write j) pipes k count = with_kept (λ p. p.writers) (λ p. record p { taken = p.taken + count }) (λ p. refl) pipes k j

-- one end more, of a pipe that is there
with_more : (c : PipeState → ℕ) (g : PipeState → PipeState) → ((p : PipeState) → c (g p) ≡ c p + 1)
    → (pipes : List PipeState) (k j : ℕ) → k < length pipes
    → of_pipe c (slice_get (with_pipe pipes k (slice_get pipes k) g) j) ≡ of_pipe c (slice_get pipes j) + (if j == k then 1 else 0)
with_more c g makes pipes k j there =
    let some : slice_get pipes k ≡ Some (get_or pipes k new_pipe) = slice_get-get_or pipes k new_pipe there in
    with_number c g (λ n. n + 1) makes pipes k j (slice_get pipes k) refl (λ (e : slice_get pipes k ≡ None). absurd (let no : ⊥ = cc in no))
    ∙ if_more (j == k) (of_pipe c (slice_get pipes j))

pub add_number : (f : PipeEnd) (pipes : List PipeState) (g : PipeEnd) → pipe_of g < length pipes → number_at f (with_end pipes g) ≡ number_at f pipes + same f g
add_number (Read j) pipes (Read k) there = with_more (λ p. p.readers) (λ p. record p { readers = p.readers + 1 }) (λ p. refl) pipes k j there
add_number (Read j) pipes (Write k) there = with_kept (λ p. p.readers) (λ p. record p { writers = p.writers + 1 }) (λ p. refl) pipes k j ∙ omega arith
add_number (Write j) pipes (Read k) there = with_kept (λ p. p.writers) (λ p. record p { readers = p.readers + 1 }) (λ p. refl) pipes k j ∙ omega arith
add_number (Write j) pipes (Write k) there = with_more (λ p. p.writers) (λ p. record p { writers = p.writers + 1 }) (λ p. refl) pipes k j there

-- one end fewer
with_less : (c : PipeState → ℕ) (g : PipeState → PipeState) → ((p : PipeState) → c (g p) ≡ c p - 1)
    → (pipes : List PipeState) (k j : ℕ)
    → of_pipe c (slice_get (with_pipe pipes k (slice_get pipes k) g) j) ≡ of_pipe c (slice_get pipes j) - (if j == k then 1 else 0)
with_less c g makes pipes k j =
    with_number c g (λ n. n - 1) makes pipes k j (slice_get pipes k) refl (λ e. refl) ∙ if_less (j == k) (of_pipe c (slice_get pipes j))

pub drop_number : (f : PipeEnd) (pipes : List PipeState) (g : PipeEnd) → number_at f (without_end pipes g) ≡ number_at f pipes - same f g
drop_number (Read j) pipes (Read k) = with_less (λ p. p.readers) (λ p. record p { readers = p.readers - 1 }) (λ p. refl) pipes k j
drop_number (Read j) pipes (Write k) = with_kept (λ p. p.readers) (λ p. record p { writers = p.writers - 1 }) (λ p. refl) pipes k j ∙ omega arith
drop_number (Write j) pipes (Read k) = with_kept (λ p. p.writers) (λ p. record p { readers = p.readers - 1 }) (λ p. refl) pipes k j ∙ omega arith
drop_number (Write j) pipes (Write k) = with_less (λ p. p.writers) (λ p. record p { writers = p.writers - 1 }) (λ p. refl) pipes k j

-- a new pipe: one of each of its ends
get_not_end : {A : Type 0} (xs : List A) (x : A) (j : ℕ) → (j ≡ length xs → ⊥) → slice_get (xs ++ x ∷ []) j ≡ slice_get xs j
get_not_end [] x zero n = absurd (n refl)
get_not_end [] x (suc j) n = refl
get_not_end (y ∷ ys) x zero n = refl
get_not_end (y ∷ ys) x (suc j) n = get_not_end ys x j (λ e. n (ap suc e))

with_new : (c : PipeState → ℕ) → c new_pipe ≡ 1 → (pipes : List PipeState) (j : ℕ)
    → of_pipe c (slice_get (pipes ++ new_pipe ∷ []) j) ≡ of_pipe c (slice_get pipes j) + (if j == length pipes then 1 else 0)
with_new c one pipes j =
    elim (j == length pipes) as (λ b. (j == length pipes) ≡ b
    → of_pipe c (slice_get (pipes ++ new_pipe ∷ []) j) ≡ of_pipe c (slice_get pipes j) + (if b then 1 else 0)) [
      | true ↦ λ t.
          let at = eqb-true j (length pipes) t in
          let empty : slice_get pipes j ≡ None = slice_get_past pipes j (omega (arith, at)) in
          let made : slice_get (pipes ++ new_pipe ∷ []) j ≡ Some new_pipe = ap (slice_get (pipes ++ new_pipe ∷ [])) at ∙ slice_get-last pipes new_pipe in
          omega (arith, ap (of_pipe c) made, ap (of_pipe c) empty, one)
      | false ↦ λ t. omega (arith, ap (of_pipe c) (get_not_end pipes new_pipe j (eqb-false j (length pipes) t)))
    ] refl

pub open_number : (f : PipeEnd) (pipes : List PipeState)
    → number_at f (stepped pipes Open) ≡ number_at f pipes + same f (Read (length pipes)) + same f (Write (length pipes))
open_number (Read j) pipes = omega (arith, with_new (λ p. p.readers) refl pipes j)
open_number (Write j) pipes = omega (arith, with_new (λ p. p.writers) refl pipes j)

-- the ends of a new pipe are none of a pipe that is there
pub record IsNew (f : PipeEnd) (k : ℕ) : Type 0 where
  pub reads : same f (Read k) ≡ 0
  pub writes : same f (Write k) ≡ 0

pub below_new : (f : PipeEnd) (k : ℕ) → pipe_of f < k → IsNew f k
below_new (Read j) k h = record { reads = ap (λ (b : Bool). if b then 1 else 0) (ne_eqb j k (λ (e : j ≡ k). omega (arith, h, e))); writes = refl }
below_new (Write j) k h = record { reads = refl; writes = ap (λ (b : Bool). if b then 1 else 0) (ne_eqb j k (λ (e : j ≡ k). omega (arith, h, e))) }

-- ---- steps one after the other

pub with_length : (pipes : List PipeState) (k : ℕ) (o : Option PipeState) (g : PipeState → PipeState) → length (with_pipe pipes k o g) ≡ length pipes
with_length pipes k None g = refl
with_length pipes k (Some p) g = length-set pipes k (g p)

end_length : (pipes : List PipeState) (g : PipeEnd) → length (with_end pipes g) ≡ length pipes
end_length pipes (Read k) = with_length pipes k (slice_get pipes k) _
end_length pipes (Write k) = with_length pipes k (slice_get pipes k) _

step_length : (pipes : List PipeState) (step : PipeStep) → length pipes ≤ length (stepped pipes step)
step_length pipes Open = omega (arith, length-append pipes (new_pipe ∷ []))
step_length pipes (Put k bytes) = omega (arith, with_length pipes k (slice_get pipes k) (λ p. record p { written = p.written ++ bytes }))
step_length pipes (Take k count) = omega (arith, with_length pipes k (slice_get pipes k) (λ p. record p { taken = p.taken + count }))
step_length pipes (Add g) = omega (arith, end_length pipes g)
step_length pipes (Drop (Read k)) = omega (arith, with_length pipes k (slice_get pipes k) (λ p. record p { readers = p.readers - 1 }))
step_length pipes (Drop (Write k)) = omega (arith, with_length pipes k (slice_get pipes k) (λ p. record p { writers = p.writers - 1 }))

-- no pipe ever goes
pub steps_length : (steps : List PipeStep) (pipes : List PipeState) → length pipes ≤ length (all_stepped pipes steps)
steps_length [] pipes = omega arith
steps_length (step ∷ steps) pipes = omega (arith, step_length pipes step, steps_length steps (stepped pipes step))

pub drops_number : (f : PipeEnd) (ends : List PipeEnd) (pipes : List PipeState)
    → number_at f (all_stepped pipes (map Drop ends)) ≡ number_at f pipes - count_ends f ends
drops_number f [] pipes = omega arith
drops_number f (g ∷ gs) pipes = omega (arith, drops_number f gs (without_end pipes g), drop_number f pipes g)

-- the pipe of each of these ends is one of so many
abbrev pub AreThere : ℕ → List PipeEnd → Type 0
AreThere count [] = Unit {0}
AreThere count (g ∷ gs) = (pipe_of g < count) × AreThere count gs

pub adds_number : (f : PipeEnd) (ends : List PipeEnd) (pipes : List PipeState) → AreThere (length pipes) ends
    → number_at f (all_stepped pipes (map Add ends)) ≡ number_at f pipes + count_ends f ends
adds_number f [] pipes there = omega arith
adds_number f (g ∷ gs) pipes there =
    omega (arith, adds_number f gs (with_end pipes g) (subst (λ (n : ℕ). AreThere n gs) (sym (end_length pipes g)) there.1), add_number f pipes g there.0)

eqb_itself : (n : ℕ) → (n == n) ≡ true
eqb_itself n = elim (n == n) as (λ b. (n == n) ≡ b → b ≡ true) [ true ↦ λ t. refl | false ↦ λ t. absurd (eqb-false n n t refl) ] refl

same_itself : (f : PipeEnd) → same f f ≡ 1
same_itself (Read k) = ap (λ (b : Bool). if b then 1 else 0) (eqb_itself k)
same_itself (Write k) = ap (λ (b : Bool). if b then 1 else 0) (eqb_itself k)

-- ends of which the pipes have at least as many are of pipes that are there
pub are_there : (ends : List PipeEnd) (pipes : List PipeState) → ((f : PipeEnd) → count_ends f ends ≤ number_at f pipes) → AreThere (length pipes) ends
are_there [] pipes has = tt
are_there (g ∷ gs) pipes has =
    (number_below g pipes (omega (arith, has g, same_itself g)), are_there gs pipes (λ f. omega (arith, has f)))
