-- Through each event the tables of a state keep their limits.
use Rattle.std.proofs.Common.{append-nil, ◌≡◌, ℕ, zero, suc, ◌+◌, ◌<◌, ◌≤◌, inl, inr, Bool, not, List, [], ◌∷◌, ◌++◌, length, slice_get, Option, Some, None, IfSome, refl, sym, ap, ◌∙◌, subst, arith, length-append}
use Rattle.std.specs.Prelude.{option_to_list, filter}
use Rattle.std.proofs.lemmas.List.{length-map, length-set, length-drop}
use Rattle.disk_model.specs.Held.{joined}
use Rattle.disk_model.specs.declared.change.Change.{Change}
use Rattle.disk_model.proofs.Lists.{each_get, each_more}
use Rattle.disk_model.proofs.Tidy.{IsTidyFile, tidy_after}
use Rattle.machine_model.specs.declared.reply.Reply.{Reply}
use Rattle.machine_model.specs.States.{stopped_at}
use Rattle.machine_model.specs.Replies.{replied}
use Rattle.disk_model.specs.Numbers.{Numbered}
use Rattle.kernel_model.specs.Limits.{AreNumbered, KeepLimits, TapesAreThere, AreFewAndShort, RiseWithin, descriptor_count}
use Rattle.kernel_model.specs.Rows.{CallEffect, most_processes}
use Rattle.kernel_model.specs.State.{SyncState, Process, TapeState, process_at, put_process, with_process, shared, changed_by, read_by, with_place}
use Rattle.kernel_model.specs.Steps.{Transition, change_by, after_run, is_collected, after_reply, forked, after_end, after_effect, step, zero_reply}
use Rattle.kernel_model.specs.World.{World, Boot, BootProgram, HoldsItsFiles, first_process, processes_from, tapes_of, tape_count, first_world, happens, after}
use Rattle.kernel_model.specs.declared.descriptor.Descriptor.{Descriptor}
use Rattle.kernel_model.specs.declared.effect.TapeRead.{TapeRead}
use Rattle.kernel_model.specs.declared.event.Event.{Event}
use Rattle.kernel_model.specs.declared.request.Verdict.{Verdict}
use Rattle.kernel_model.specs.declared.request.Verdict.TheVariants.{Waits, Replies, Ends}
use Rattle.kernel_model.proofs.Limits.{put_length, at_put, at_append, at_below, rise_higher, rise_filter, rise_more, IsThere, AreThere, are_there_more, free_there, closed_there, there_at, set_there, slots_length, IsHeld, IsBrief, FilesStand, LeavesFew, changed_stand}
use Rattle.kernel_model.proofs.Numbering.{made_grows, numbered_first, numbered_changed}
use Rattle.kernel_model.proofs.ChildRows.{IsNoneOrNextProcess}
use Rattle.kernel_model.proofs.Transitions.{each_event, of_step}
use Rattle.kernel_model.proofs.LimitRows.{PipesFit, Keeps, effect_keeps}

-- process pid, which is p, of so many files, tapes and processes
pub record Stands (files tapes processes pid : ℕ) (p : Process) : Type 0 where
  pub count : length p.descriptors ≡ descriptor_count
  pub there : AreThere files tapes p.descriptors
  pub children : RiseWithin pid processes p.children

-- all processes, the pipes and how many tapes there are, where descriptors stand for tapes of numbers below `named`
pub record AllStand (named : ℕ) (s : SyncState) : Type 0 where
  pub each : (pid : ℕ) (p : Process) → process_at s.processes pid ≡ Some p → Stands s.files.made named (length s.processes) pid p
  pub pipes : PipesFit s.pipes
  pub tapes : length s.tapes ≡ tape_count
  pub numbered : AreNumbered s.files

-- what an event keeps
pub record Kept (tapes : ℕ) (s t : SyncState) : Type 0 where
  pub stand : AllStand tapes t
  pub few : length s.processes ≤ most_processes → length t.processes ≤ most_processes
  pub files : FilesStand s.files.living → FilesStand t.files.living

same_kept : (tapes : ℕ) (s : SyncState) → AllStand tapes s → Kept tapes s s
same_kept tapes s all = record { stand = all; few = λ h. h; files = λ h. h }

-- among more files and processes a process stands as well
stands_more : (files more tapes processes top pid : ℕ) (p : Process) → files ≤ more → processes ≤ top → Stands files tapes processes pid p → Stands more tapes top pid p
stands_more files more tapes processes top pid p le below h = record {
  count = h.count;
  there = are_there_more files more tapes le p.descriptors h.there;
  children = rise_higher pid processes top p.children below h.children;
}

-- ---- an effect

place_length : (tapes : List TapeState) (t count : ℕ) (o : Option TapeState) → length (with_place tapes t count o) ≡ length tapes
place_length tapes t count None = refl
place_length tapes t count (Some tape) = length-set tapes t (record tape { place = tape.place + count })

read_length : (tapes : List TapeState) (o : Option TapeRead) → length (read_by tapes o) ≡ length tapes
read_length tapes None = refl
read_length tapes (Some r) = place_length tapes r.tape r.count (slice_get tapes r.tape)

by_stand : (files : Numbered) (o : Option Change) → IfSome o (LeavesFew files.living) → FilesStand files.living → FilesStand (changed_by files o).living
by_stand files None leaves h = h
by_stand files (Some c) leaves h = changed_stand files.living c leaves h

-- how many processes are made
abbrev made : Option ℕ → ℕ
made None = 0
made (Some child) = 1

forked_length : (p : Process) (o : Option ℕ) → length (forked p o) ≡ made o
forked_length p None = refl
forked_length p (Some child) = refl

few_made : (count : ℕ) (o : Option ℕ) → IsNoneOrNextProcess count o → count ≤ most_processes → count + made o ≤ most_processes
few_made count None next le = omega (arith, le)
few_made count (Some child) next le = omega (arith, next.1)

-- the children left, with the one that is made
children_stand : (children : List ℕ) (collects : ℕ → Bool) (o : Option ℕ) (pid count : ℕ) → pid ≤ count → IsNoneOrNextProcess count o → RiseWithin pid count children
    → RiseWithin pid (count + made o) (filter collects children ++ option_to_list o)
children_stand children collects None pid count le next h =
    subst (λ (ns : List ℕ). RiseWithin pid (count + 0) ns) (sym (append-nil (filter collects children)))
    (rise_higher pid count (count + 0) (filter collects children) (omega arith) (rise_filter collects pid count children h))
children_stand children collects (Some child) pid count le next h =
    let is : child ≡ count + 1 = next.0 in
    subst (λ (n : ℕ). RiseWithin pid (count + 1) (filter collects children ++ n ∷ [])) (sym is)
    (rise_more pid count (filter collects children) le (rise_filter collects pid count children h))

-- Below, a process that stands there.
module _ (tapes : ℕ) (s : SyncState) (all : AllStand tapes s) (pid : ℕ) (p : Process) (at : process_at s.processes pid ≡ Some p) where
  own : Stands s.files.made tapes (length s.processes) pid p
  own = all.each pid p at

  -- the process is now another, where all else stays
  put_each : (q : Process) → Stands s.files.made tapes (length s.processes) pid q → (j : ℕ) (x : Process)
      → process_at (put_process s.processes pid q) j ≡ Some x → Stands s.files.made tapes (length s.processes) j x
  put_each q new j x e = elim (at_put s.processes pid j q x e) [
    | inl t ↦ subst (λ (y : Process). Stands s.files.made tapes (length s.processes) j y) t.1
        (subst (λ (i : ℕ). Stands s.files.made tapes (length s.processes) i q) (sym t.0) new)
    | inr t ↦ all.each j x t
  ]

  run_kept : (n : ℕ) → Kept tapes s (with_process s pid (after_run n p))
  run_kept n =
      let count = put_length s.processes pid (after_run n p) in
      record {
        stand = record {
          each = λ j x is. stands_more s.files.made s.files.made tapes (length s.processes) (length (put_process s.processes pid (after_run n p))) j x (omega arith) (omega (arith, count))
              (put_each (after_run n p) (record { count = own.count; there = own.there; children = own.children }) j x is);
          pipes = all.pipes;
          tapes = all.tapes;
          numbered = all.numbered;
        };
        few = λ h. omega (arith, count, h);
        files = λ h. h;
      }

  end_kept : (e : CallEffect) (status : ℕ) → Keeps (shared s) tapes all.pipes all.numbered e → Kept tapes s (after_effect s pid p e (Ends status)).state
  end_kept e status keeps =
      let count = put_length s.processes pid (after_end p status) in
      record {
        stand = record {
          each = λ j x is. stands_more s.files.made s.files.made tapes (length s.processes) (length (put_process s.processes pid (after_end p status))) j x (omega arith) (omega (arith, count))
              (put_each (after_end p status) (record {
                count = length-map p.descriptors (λ (d : Option Descriptor). None) ∙ own.count;
                there = closed_there s.files.made tapes p.descriptors;
                children = own.children;
              }) j x is);
          pipes = keeps.pipes;
          tapes = all.tapes;
          numbered = all.numbered;
        };
        few = λ h. omega (arith, count, h);
        files = λ h. h;
      }

  -- Below, an effect that keeps the limits, and a reply.
  module _ (e : CallEffect) (r : Reply) (keeps : Keeps (shared s) tapes all.pipes all.numbered e) where
    next : IsNoneOrNextProcess (length s.processes) e.child
    next = subst (λ (n : ℕ). IsNoneOrNextProcess n e.child) (length-map s.processes (λ (q : Process). q.status)) keeps.child

    grows : s.files.made ≤ (changed_by s.files (change_by s.files e.edit)).made
    grows = made_grows s.files (change_by s.files e.edit)

    abbrev Then : ℕ → Process → Type 0
    Then j x = Stands (changed_by s.files (change_by s.files e.edit)).made tapes (length s.processes + made e.child) j x

    replied_stands : Then pid (after_reply p e r)
    replied_stands = record {
      count = slots_length e.slots p.descriptors ∙ own.count;
      there = set_there (changed_by s.files (change_by s.files e.edit)).made tapes e.slots p.descriptors keeps.slots
          (are_there_more s.files.made (changed_by s.files (change_by s.files e.edit)).made tapes grows p.descriptors own.there);
      children = children_stand p.children (λ child. not (is_collected e.collects child)) e.child pid (length s.processes) (at_below s.processes pid p at) next own.children;
    }

    forked_stands : (j k : ℕ) (x : Process) (o : Option ℕ) → slice_get (forked p o) k ≡ Some x → Then j x
    forked_stands j k x None is = absurd (let no : ⊥ = cc in no)
    forked_stands j zero x (Some child) is =
        let new : Process = record { state = replied p.state zero_reply; descriptors = p.descriptors; children = []; status = None } in
        let same : new ≡ x = cc in
        subst (λ (y : Process). Then j y) same (record {
          count = own.count;
          there = are_there_more s.files.made (changed_by s.files (change_by s.files e.edit)).made tapes grows p.descriptors own.there;
          children = tt;
        })
    forked_stands j (suc k) x (Some child) is = absurd (let no : ⊥ = cc in no)

    each_stands : (j : ℕ) (x : Process) → process_at (put_process s.processes pid (after_reply p e r) ++ forked p e.child) j ≡ Some x → Then j x
    each_stands j x is = elim (at_append (put_process s.processes pid (after_reply p e r)) (forked p e.child) j x is) [
      | inl there ↦ elim (at_put s.processes pid j (after_reply p e r) x there) [
        | inl t ↦ subst (λ (y : Process). Then j y) t.1 (subst (λ (i : ℕ). Then i (after_reply p e r)) (sym t.0) replied_stands)
        | inr t ↦ stands_more s.files.made (changed_by s.files (change_by s.files e.edit)).made tapes (length s.processes) (length s.processes + made e.child) j x grows (omega arith) (all.each j x t)
      ]
      | inr t ↦ forked_stands j t.0 x e.child t.1
    ]

    total : length (put_process s.processes pid (after_reply p e r) ++ forked p e.child) ≡ length s.processes + made e.child
    total = omega (
      arith,
      length-append (put_process s.processes pid (after_reply p e r)) (forked p e.child),
      forked_length p e.child,
      put_length s.processes pid (after_reply p e r),
    )

    reply_kept : Kept tapes s (after_effect s pid p e (Replies r)).state
    reply_kept = record {
      stand = record {
        each = λ j x is. subst (λ (n : ℕ). Stands (changed_by s.files (change_by s.files e.edit)).made tapes n j x) (sym total) (each_stands j x is);
        pipes = keeps.pipes;
        tapes = read_length s.tapes e.tape ∙ all.tapes;
        numbered = numbered_changed s.files (change_by s.files e.edit) all.numbered;
      };
      few = λ h. omega (arith, total, few_made (length s.processes) e.child next h);
      files = λ h. by_stand s.files (change_by s.files e.edit) keeps.change h;
    }

  told_kept : (e : CallEffect) (v : Verdict) → Keeps (shared s) tapes all.pipes all.numbered e → Kept tapes s (after_effect s pid p e v).state
  told_kept e Waits keeps = same_kept tapes s all
  told_kept e (Replies r) keeps = reply_kept e r keeps
  told_kept e (Ends status) keeps = end_kept e status keeps

-- ---- events

pub step_kept : (tapes : ℕ) (s : SyncState) (e : Event) → AllStand tapes s → Kept tapes s (step s e).state
step_kept tapes s e all = of_step (λ (t : Transition). Kept tapes s t.state) s (same_kept tapes s all)
    (λ pid. each_event (λ (t : Transition). Kept tapes s t.state) s pid (same_kept tapes s all)
    (λ n p at lives. run_kept tapes s all pid p at n)
    (λ p f at lives is. told_kept tapes s all pid p at f f.verdict (subst (λ (o : Option CallEffect). IfSome o (Keeps (shared s) tapes all.pipes all.numbered)) is
    (effect_keeps (shared s) tapes all.pipes all.numbered pid p (stopped_at p.state) (all.each pid p at).there)))) e

-- ---- runs

after_kept : (tapes : ℕ) (es : List Event) (w : World) → AllStand tapes w.sync → Kept tapes w.sync (after w es).sync
after_kept tapes [] w all = same_kept tapes w.sync all
after_kept tapes (e ∷ es) w all =
    let one = step_kept tapes w.sync e all in
    let more = after_kept tapes es (happens w e) one.stand in
    record { stand = more.stand; few = λ h. more.few (one.few h); files = λ h. more.files (one.files h) }

-- a boot's processes are as many as its programs, and each has a tape of a number below that
first_length : (i : ℕ) (ps : List BootProgram) → length (processes_from i ps) ≡ length ps
first_length i [] = refl
first_length i (p ∷ ps) = ap suc (first_length (i + 1) ps)

first_get : (files tapes processes i pid k : ℕ) (ps : List BootProgram) (p : Process) → i + length ps ≤ tapes → slice_get (processes_from i ps) k ≡ Some p → Stands files tapes processes pid p
first_get files tapes processes i pid k [] p le is = absurd (let no : ⊥ = cc in no)
first_get files tapes processes i pid zero (q ∷ ps) p le is =
    let same : first_process i q ≡ p = cc in
    subst (λ (x : Process). Stands files tapes processes pid x) same (record { count = refl; there = (omega (arith, le), (tt, free_there files tapes 14)); children = tt })
first_get files tapes processes i pid (suc k) (q ∷ ps) p le is = first_get files tapes processes (i + 1) pid k ps p (omega (arith, le)) is

first_at : (files tapes processes pid : ℕ) (ps : List BootProgram) (p : Process) → length ps ≤ tapes → process_at (processes_from 0 ps) pid ≡ Some p → Stands files tapes processes pid p
first_at files tapes processes zero ps p le is = absurd (let no : ⊥ = cc in no)
first_at files tapes processes (suc k) ps p le is = first_get files tapes processes 0 (suc k) k ps p (omega (arith, le)) is

tapes_length : (n : ℕ) (tapes : List (List ℕ)) → length (tapes_of n tapes) ≡ n
tapes_length zero tapes = refl
tapes_length (suc n) [] = ap suc (tapes_length n [])
tapes_length (suc n) (tape ∷ tapes) = ap suc (tapes_length n tapes)

pub first_world_stand : (b : Boot) → AllStand (length b.programs) (first_world b).sync
first_world_stand b = record {
  each = λ pid p is. first_at (length b.files) (length b.programs) (length (processes_from 0 b.programs)) pid b.programs p (omega arith) is;
  pipes = record { few = omega arith; held = tt };
  tapes = tapes_length tape_count b.tapes;
  numbered = numbered_first b.files;
}

run_kept_all : (b : Boot) (es : List Event) → Kept (length b.programs) (first_world b).sync (after (first_world b) es).sync
run_kept_all b es = after_kept (length b.programs) es (first_world b) (first_world_stand b)

-- ---- the laws

pub run_processes : (b : Boot) (es : List Event) → length b.programs ≤ most_processes → length (after (first_world b) es).sync.processes ≤ most_processes
run_processes b es le = (run_kept_all b es).few (omega (arith, first_length 0 b.programs, le))

-- a state that stands keeps the limits
pub stand_limits : (tapes : ℕ) (s : SyncState) → AllStand tapes s → KeepLimits s
stand_limits tapes s all = record {
  processes = λ pid p at.
      let own = all.each pid p at in
      record {
        descriptors = own.count;
        named = λ fd file offset writes is. subst (IsThere s.files.made tapes) is (there_at s.files.made tapes p.descriptors fd own.there);
        children = own.children;
      };
  pipes = all.pipes.few;
  numbered = all.numbered;
  held = λ k p at.
      let own = each_get IsHeld s.pipes k p all.pipes.held at in
      record { taken = own.taken; held = omega (arith, own.taken, own.most, length-drop p.taken p.written) };
}

pub run_limits : (b : Boot) (es : List Event) → KeepLimits (after (first_world b) es).sync
run_limits b es = stand_limits (length b.programs) (after (first_world b) es).sync (run_kept_all b es).stand

pub run_tapes : (b : Boot) (es : List Event) → length b.programs ≤ tape_count → TapesAreThere (after (first_world b) es).sync
run_tapes b es le pid fd t p at is =
    let all = (run_kept_all b es).stand in
    let below : t < length b.programs = subst (IsThere (after (first_world b) es).sync.files.made (length b.programs)) is
    (there_at (after (first_world b) es).sync.files.made (length b.programs) p.descriptors fd (all.each pid p at).there) in
    omega (arith, below, le, all.tapes)

-- files that a disk holds are few and short
booted_files : (b : Boot) → HoldsItsFiles b → FilesStand b.files
booted_files b held = subst FilesStand (sym held.reads.makes) (
    let tidy = tidy_after (joined held.reads.groups) held.reads.possible in record { few = tidy.few; each = each_more IsTidyFile IsBrief (λ f h. record { some = h.name.0; name = h.name.1; bytes = h.short }) _ tidy.each })

pub run_files : (b : Boot) (es : List Event) → HoldsItsFiles b → AreFewAndShort (after (first_world b) es).sync.files.living
run_files b es held =
    let files = (run_kept_all b es).files (booted_files b held) in
    record {
      few = files.few;
      short = λ place f at.
          let own = each_get IsBrief (after (first_world b) es).sync.files.living place f files.each at in
          record { some = own.some; name = own.name; bytes = own.bytes };
    }

pub run_children : (b : Boot) (es : List Event) (pid : ℕ) (p : Process) → process_at (after (first_world b) es).sync.processes pid ≡ Some p
    → RiseWithin pid (length (after (first_world b) es).sync.processes) p.children
run_children b es pid p at = ((run_kept_all b es).stand.each pid p at).children
