-- Through each event the number of each end of a pipe stays the number of descriptors that stand for it.
use Rattle.std.proofs.Common.{◌≡◌, ℕ, ◌+◌, ◌<◌, ◌≤◌, inl, inr, Bool, true, false, List, [], ◌∷◌, ◌++◌, length, map, slice_get, Option, Some, None, is_some, is_none, refl, sym, ap, ◌∙◌, subst, arith}
use Rattle.std.specs.Prelude.{if◌then◌else◌}
use Rattle.std.specs.List.{AllByRecursion, list_all}
use Rattle.std.proofs.lemmas.Option.{slice_get_within}
use Rattle.disk_model.proofs.Lists.{each_append}
use Rattle.machine_model.specs.declared.reply.Reply.{Reply}
use Rattle.kernel_model.specs.Ends.{count_among, count_of, count_held}
use Rattle.kernel_model.specs.Requests.{request_of}
use Rattle.machine_model.specs.Numbers.{cause_number}
use Rattle.kernel_model.specs.Rows.{CallEffect, ends_of, row_end}
use Rattle.kernel_model.specs.State.{SyncState, Process, PipeState, process_at, put_process, with_process, shared}
use Rattle.kernel_model.specs.Steps.{Transition, after_run, after_reply, forked, after_end, after_effect, step}
use Rattle.kernel_model.specs.World.{World, Boot, BootProgram, first_process, processes_from, first_world, happens, after}
use Rattle.kernel_model.specs.declared.descriptor.Descriptor.{Descriptor}
use Rattle.kernel_model.specs.declared.descriptor.PipeEnd.{PipeEnd}
use Rattle.kernel_model.specs.declared.descriptor.PipeEnd.TheVariants.{Read, Write}
use Rattle.kernel_model.specs.declared.event.Event.{Event}
use Rattle.kernel_model.specs.declared.request.Verdict.{Verdict}
use Rattle.kernel_model.specs.declared.request.Verdict.TheVariants.{Waits, Replies, Ends}
use Rattle.kernel_model.proofs.Ends.{count_ends_of, held_append, held_put, held_at, of_pipe, number_at, pipe_of, drops_number, steps_length}
use Rattle.kernel_model.proofs.EndRows.{GoesOn, count_made, InStep, row_fits}
use Rattle.kernel_model.proofs.Limits.{each_process, each_put}
use Rattle.kernel_model.proofs.Transitions.{call_of, each_event, of_step}
use Rattle.kernel_model.proofs.Runs.{after-after}

-- ---- the numbers of ends

-- the number of each end is the number of descriptors that stand for it
abbrev pub Counted : SyncState → Type 0
Counted s = (f : PipeEnd) → number_at f s.pipes ≡ count_held f s.processes

-- from one state to the next the number of an end stays that of its descriptors, and an end of which there is none stays so
pub record Carried (f : PipeEnd) (s t : SyncState) : Type 0 where
  pub counted : number_at f t.pipes ≡ count_held f t.processes
  pub there : length s.pipes ≤ length t.pipes
  pub gone : pipe_of f < length s.pipes → number_at f s.pipes ≡ 0 → number_at f t.pipes ≡ 0

same_carried : (f : PipeEnd) (s : SyncState) → Counted s → Carried f s s
same_carried f s all = record { counted = all f; there = omega arith; gone = λ below none. none }

-- all descriptors of a process that has not ended count
own_count : (f : PipeEnd) (p : Process) → is_some p.status ≡ false → count_of f p ≡ count_among f p.descriptors
own_count f p lives = ap (λ (b : Bool). if b then 0 else count_among f p.descriptors) lives

made_count : (f : PipeEnd) (p : Process) (o : Option ℕ) → count_held f (forked p o) ≡ count_made f p.descriptors o
made_count f p None = refl
made_count f p (Some child) = omega arith

made_within : (f : PipeEnd) (ds : List (Option Descriptor)) (o : Option ℕ) → count_made f ds o ≤ count_among f ds
made_within f ds None = omega arith
made_within f ds (Some child) = omega arith

-- Below, of one end, a process that stands there and has not ended.
module _ (f : PipeEnd) (s : SyncState) (all : Counted s) (pid : ℕ) (p : Process) (at : process_at s.processes pid ≡ Some p) (lives : is_some p.status ≡ false) where
  run_carried : (n : ℕ) → Carried f s (with_process s pid (after_run n p))
  run_carried n = record {
    counted = omega (arith, all f, held_put f s.processes pid p (after_run n p) at);
    there = omega arith;
    gone = λ below none. none;
  }

  reply_carried : (e : CallEffect) (r : Reply) → InStep f s.pipes p.descriptors e → Carried f s (after_effect s pid p e (Replies r)).state
  reply_carried e r fits =
      let own = own_count f p lives in
      let put = held_put f s.processes pid p (after_reply p e r) at in
      let both = held_append f (put_process s.processes pid (after_reply p e r)) (forked p e.child) in
      let made = made_count f p e.child in
      let among = held_at f s.processes pid p at in
      record {
        counted = omega (arith, all f, fits.counted, own, put, both, made);
        there = steps_length e.pipes s.pipes;
        gone = λ below none. omega (arith, all f, fits.counted, own, among, fits.no_new below, made_within f p.descriptors e.child, none);
      }

  end_carried : (status : ℕ) → Carried f s (after_effect s pid p (row_end p.descriptors status) (Ends status)).state
  end_carried status =
      let own = own_count f p lives in
      let put = held_put f s.processes pid p (after_end p status) at in
      let dropped = drops_number f (ends_of p.descriptors) s.pipes in
      let ends = count_ends_of f p.descriptors in
      record {
        counted = omega (arith, all f, own, put, dropped, ends);
        there = steps_length (row_end p.descriptors status).pipes s.pipes;
        gone = λ below none. omega (arith, dropped, none);
      }

  told_carried : (e : CallEffect) (v : Verdict) → GoesOn v → InStep f s.pipes p.descriptors e → Carried f s (after_effect s pid p e v).state
  told_carried e Waits on fits = same_carried f s all
  told_carried e (Replies r) on fits = reply_carried e r fits
  told_carried e (Ends status) on fits = absurd on

  -- the pipes have at least as many of each end as the process has descriptors
  has_own : (g : PipeEnd) → count_among g p.descriptors ≤ number_at g s.pipes
  has_own g = omega (arith, all g, own_count g p lives, held_at g s.processes pid p at)

  call_carried : Carried f s (after_effect s pid p (call_of s pid p) (call_of s pid p).verdict).state
  call_carried = elim (row_fits f (shared s) p.descriptors has_own pid p.children (request_of p.state)) [
    | inl fits ↦ told_carried (call_of s pid p) (call_of s pid p).verdict fits.goes_on fits
    | inr end ↦ subst (λ (x : CallEffect). Carried f s (after_effect s pid p x x.verdict).state) (sym end.1) (end_carried end.0)
  ]

step_carried : (f : PipeEnd) (s : SyncState) (e : Event) → Counted s → Carried f s (step s e).state
step_carried f s e all = of_step (λ (t : Transition). Carried f s t.state) s (same_carried f s all) (λ pid. record {
  cannot = same_carried f s all;
  turns = λ n p at lives. run_carried f s all pid p at lives n;
  calls = λ p at lives stands. call_carried f s all pid p at lives;
  traps = λ p cause at lives stands. end_carried f s all pid p at lives (256 + cause_number cause);
}) e

-- ---- whole runs

after_counted : (es : List Event) (w : World) → Counted w.sync → Counted (after w es).sync
after_counted [] w all = all
after_counted (e ∷ es) w all = after_counted es (happens w e) (λ f. (step_carried f w.sync e all).counted)

first_counted : (f : PipeEnd) (i : ℕ) (ps : List BootProgram) → count_held f (processes_from i ps) ≡ 0
first_counted f i [] = refl
first_counted f i (p ∷ ps) = omega (arith, first_counted f (i + 1) ps)

first_world_counted : (b : Boot) → Counted (first_world b).sync
first_world_counted b (Read k) = sym (first_counted (Read k) 0 b.programs)
first_world_counted b (Write k) = sym (first_counted (Write k) 0 b.programs)

pub run_counted : (b : Boot) (es : List Event) → Counted (after (first_world b) es).sync
run_counted b es = after_counted es (first_world b) (first_world_counted b)

-- there is no such end any more
record IsGone (f : PipeEnd) (s : SyncState) : Type 0 where
  pub below : pipe_of f < length s.pipes
  pub none : number_at f s.pipes ≡ 0

after_gone : (f : PipeEnd) (es : List Event) (w : World) → Counted w.sync → IsGone f w.sync → number_at f (after w es).sync.pipes ≡ 0
after_gone f [] w all is = is.none
after_gone f (e ∷ es) w all is =
    let next = step_carried f w.sync e all in
    after_gone f es (happens w e) (λ g. (step_carried g w.sync e all).counted)
    (record { below = omega (arith, is.below, next.there); none = next.gone is.below is.none })

run_gone : (f : PipeEnd) (b : Boot) (es more : List Event) → IsGone f (after (first_world b) es).sync → count_held f (after (first_world b) (es ++ more)).sync.processes ≡ 0
run_gone f b es more is =
    subst (λ (w : World). count_held f w.sync.processes ≡ 0) (sym (after-after (first_world b) es more))
    (sym (after_counted more (after (first_world b) es) (run_counted b es) f) ∙ after_gone f more (after (first_world b) es) (run_counted b es) is)

pub readers_gone : (b : Boot) (es more : List Event) (k : ℕ) (p : PipeState) → slice_get (after (first_world b) es).sync.pipes k ≡ Some p → p.readers ≡ 0
    → count_held (Read k) (after (first_world b) (es ++ more)).sync.processes ≡ 0
readers_gone b es more k p at none = run_gone (Read k) b es more (record {
  below = slice_get_within (after (first_world b) es).sync.pipes k p at;
  none = ap (of_pipe (λ q. q.readers)) at ∙ none;
})

pub writers_gone : (b : Boot) (es more : List Event) (k : ℕ) (p : PipeState) → slice_get (after (first_world b) es).sync.pipes k ≡ Some p → p.writers ≡ 0
    → count_held (Write k) (after (first_world b) (es ++ more)).sync.processes ≡ 0
writers_gone b es more k p at none = run_gone (Write k) b es more (record {
  below = slice_get_within (after (first_world b) es).sync.pipes k p at;
  none = ap (of_pipe (λ q. q.writers)) at ∙ none;
})

-- ---- processes that have ended

-- all descriptors are free once the process has ended
abbrev IsEmptied : Process → Type 0
IsEmptied p = is_some p.status ≡ true → list_all is_none p.descriptors ≡ true

abbrev AreEmptied : List Process → Type 0
AreEmptied ps = AllByRecursion IsEmptied ps

living_emptied : (p : Process) → is_some p.status ≡ false → IsEmptied p
living_emptied p lives ended = absurd (let no : ⊥ = cc in no)

none_left : (ds : List (Option Descriptor)) → list_all (λ (d : Option Descriptor). is_none d) (map (λ (d : Option Descriptor). None) ds) ≡ true
none_left [] = refl
none_left (d ∷ ds) = none_left ds

forked_emptied : (p : Process) (o : Option ℕ) → AreEmptied (forked p o)
forked_emptied p None = tt
forked_emptied p (Some child) = (λ ended. absurd (let no : ⊥ = cc in no), tt)

effect_emptied : (s : SyncState) (pid : ℕ) (p : Process) (e : CallEffect) (v : Verdict) → AreEmptied s.processes → AreEmptied (after_effect s pid p e v).state.processes
effect_emptied s pid p e Waits all = all
effect_emptied s pid p e (Replies r) all =
    each_append IsEmptied (put_process s.processes pid (after_reply p e r)) (forked p e.child)
    (each_put IsEmptied s.processes pid (after_reply p e r) (living_emptied (after_reply p e r) refl) all) (forked_emptied p e.child)
effect_emptied s pid p e (Ends status) all = each_put IsEmptied s.processes pid (after_end p status) (λ ended. none_left p.descriptors) all

step_emptied : (s : SyncState) (e : Event) → AreEmptied s.processes → AreEmptied (step s e).state.processes
step_emptied s e all = of_step (λ (t : Transition). AreEmptied t.state.processes) s all
    (λ pid. each_event (λ (t : Transition). AreEmptied t.state.processes) s pid all
    (λ n p at lives. each_put IsEmptied s.processes pid (after_run n p) (living_emptied (after_run n p) lives) all)
    (λ p f at lives is. effect_emptied s pid p f f.verdict all)) e

after_emptied : (es : List Event) (w : World) → AreEmptied w.sync.processes → AreEmptied (after w es).sync.processes
after_emptied [] w all = all
after_emptied (e ∷ es) w all = after_emptied es (happens w e) (step_emptied w.sync e all)

first_emptied : (i : ℕ) (ps : List BootProgram) → AreEmptied (processes_from i ps)
first_emptied i [] = tt
first_emptied i (p ∷ ps) = (living_emptied (first_process i p) refl, first_emptied (i + 1) ps)

pub run_emptied : (b : Boot) (es : List Event) (pid : ℕ) (p : Process) → process_at (after (first_world b) es).sync.processes pid ≡ Some p → is_some p.status ≡ true
    → list_all is_none p.descriptors ≡ true
run_emptied b es pid p at = each_process IsEmptied (after (first_world b) es).sync.processes pid p (after_emptied es (first_world b) (first_emptied 0 b.programs)) at
