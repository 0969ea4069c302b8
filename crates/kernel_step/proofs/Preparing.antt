-- The rest of an Enter that is prepared may be done.
use Rattle.std.proofs.Common.{◌≡◌, ◌∙◌, ℕ, ◌^◌, ◌<◌, ◌≤◌, List, length, Option, None, Some, IfSome, ap, sym, subst, arith}
use Rattle.std.specs.Global.{Vec}
use Rattle.calls.specs.Plans.{AreLeft, IsNext, MayAllStep}
use Rattle.commit_deps.specs.Kept.{Kept}
use Rattle.kernel_model.specs.Entries.{Item}
use Rattle.kernel_model.specs.Shown.{end_in}
use Rattle.kernel_model.specs.State.{TapeState}
use Rattle.kernel_model.specs.declared.event.Event.{Event}
use Rattle.machine_model.specs.States.{State}
use Rattle.pipes.specs.Seen.{Seen}
use Rattle.processes.specs.Parts.{Part}
use Rattle.held_output.specs.Withheld.{Withheld, Held, IsSame, whats}
use Rattle.kernel_step.specs.Entering.{entry_of, in_image_by, MayBeTold, IsChild, unboxed}
use Rattle.kernel_step.specs.Ready.{MayEnter, HasRoomForEnter, IsPrepared, IsReady, MayBeNoted}
use Rattle.kernel_step.specs.Tasks.{machine_of, out_of, status_of}
use Rattle.kernel_step.specs.declared.plan.EnterPlan.{EnterPlan}
use Rattle.kernel_step.specs.declared.system.System.{System}
use Rattle.kernel_step.specs.declared.task.Task.{Task}

-- a process that is made has not ended, where its parent has not
child-runs : (number : Option ℕ) (s : State) (parent : Withheld Item) (o : Option Task) → IsChild number s parent o → end_in (whats parent.items) ≡ None
    → IfSome o (λ (u : Task). status_of u ≡ None)
child-runs number s parent None made running = tt
child-runs number s parent (Some u) made running = ap (λ (hs : List (Held Item)). end_in (whats hs)) made.1.items ∙ running

child-room : (number : Option ℕ) (s : State) (parent : Withheld Item) (o : Option Task) → IsChild number s parent o → IfSome o (λ (u : Task). 1 ≤ u.trace.room)
child-room number s parent None made = tt
child-room number s parent (Some u) made = made.1.room

pub is-ready : (u : Task) (m : State) (parent trace : Withheld Item) (s s1 : System) (d : Kept) (pid : ℕ) (history : Vec Event) (e : EnterPlan)
    → MayEnter s pid m parent → IsPrepared pid m parent s s1 e → HasRoomForEnter history trace s1 e → IsSame parent trace
    → out_of u ≡ None → machine_of u ≡ m → u.trace ≡ trace
    → IsReady u (record s1 { dependencies = d }) e
is-ready u m parent trace s s1 d pid history e may prepared holds same here is traced =
    let entering = prepared.entering in
    let plans = entering.plan in
    let changed = prepared.changed in
    let size : length s1.processes.parts ≡ length s.processes.parts = ap (λ (xs : List Part). length xs) changed.parts in
    let within : pid ≤ length s.processes.parts = may.plan.call.there in
    let number : e.pid ≡ pid = entering.process in
    record {
      task = record {
        here = here;
        goes_on = entering.next ∙ ap (λ (x : State). in_image_by x e.plan.verdict) (sym is);
        fine = subst (λ (x : State). MayBeTold x e.plan.verdict) (sym is) plans.verdict;
        budget = subst (λ (x : State). x.count < 2 ^ 40) (sym is) may.budget;
        running =
            ap (λ (r : Withheld Item). end_in (whats r.items)) traced
            ∙ ap (λ (hs : List (Held Item)). end_in (whats hs)) same.items
            ∙ may.running;
        room = subst (λ (r : Withheld Item). 1 ≤ r.room) (sym traced) holds.replies;
      };
      child = record {
        running = child-runs e.plan.child m parent (unboxed e.child) entering.child may.running;
        room = child-room e.plan.child m parent (unboxed e.child) entering.child;
      };
      output = holds.plan.output;
      changes = holds.plan.changes;
      system = record {
        processes = record {
          from_1 = subst (λ (k : ℕ). 0 < k) (sym number) may.plan.call.from_1;
          there = omega (arith, size, within, number);
          child = subst (λ (xs : List Part). IfSome e.plan.child (IsNext (length xs))) (sym changed.parts) plans.child;
          one = plans.one_child;
          room = holds.plan.children;
        };
        left = subst (λ (ts : List TapeState). IfSome e.plan.tape (AreLeft ts)) (sym changed.tapes) plans.left;
        spare = entering.spare;
        may = subst (λ (ps : List Seen). MayAllStep ps e.plan.pipes.items) (sym changed.pipes) plans.may;
        few = subst (λ (n : ℕ). n < 2 ^ 63) (sym changed.served) may.few;
      };
    }

-- its event may be noted
pub may-note : (m : State) (trace later : Withheld Item) (s s1 : System) (d : Kept) (pid : ℕ) (history : Vec Event) (e : EnterPlan) → IsPrepared pid m trace s s1 e
    → HasRoomForEnter history later s1 e
    → length e.writes.items ≤ d.room → MayBeNoted (record s1 { dependencies = d }) e
may-note m trace later s s1 d pid history e prepared holds room =
    let entering = prepared.entering in
    record {
      room = room;
      footprint = holds.footprint;
      carriers = holds.carriers;
      writes = subst (λ (k : ℕ). e.writes.items ≡ (entry_of k e.plan).writes) (sym entering.process) entering.writes;
    }
