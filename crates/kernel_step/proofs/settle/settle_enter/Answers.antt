-- The Turn is noted, and then the Enter is carried out.
use Rattle.std.proofs.Common.{◌≡◌, ◌∙◌, ◌++◌, [], ◌∷◌, ℕ, List, refl, ap, subst, arith, rules}
use Rattle.std.proofs.lemmas.List.{append_assoc}
use Rattle.commit_deps.specs.Kept.{Marked}
use Rattle.kernel_model.specs.declared.event.Event.{Event}
use Rattle.kernel_model.specs.declared.event.Event.TheVariants.{Turn, Enter}
use Rattle.kernel_step.specs.Entering.{unboxed}
use Rattle.kernel_step.specs.Parts.{IsOwnNoted}
use Rattle.kernel_step.specs.Settling.{marked_with}
use Rattle.kernel_step.specs.declared.task.Task.{Task}
use Rattle.kernel_step.specs.declared.whereabouts.Whereabouts.TheVariants.{Here}
use Rattle.kernel_step.proofs.EnterWorld.{carried-done, shared-turned}
use Rattle.kernel_step.proofs.Preparing.{is-ready, may-note}
use Rattle.kernel_step.proofs.settle.settle_enter.Goals as goal

pub carry_out-outcome-requires-clause-ready : goal.carry_out-outcome-requires-clause-ready
carry_out-outcome-requires-clause-ready c =
    let back = c.come_back.ensures.back in
    is-ready c.come_back.new.task c.args.done.machine c.args.task.now.trace c.prepare_done.new.trace c.args.system.now c.prepare_done.new.system c.note_own.new.dependencies
    c.args.done.pid c.prepare_done.new.history c.in-Ok.entering
    c.requires.fine c.in-Ok.ensures.prepared c.in-Ok.ensures.holds c.in-Ok.ensures.trace
    back.out back.machine c.come_back.ensures.trace

pub carry_out-outcome-requires-clause-noting : goal.carry_out-outcome-requires-clause-noting
carry_out-outcome-requires-clause-noting c =
    let room = c.in-Ok.ensures.holds.writes in
    let left = c.note_own.ensures.room in
    may-note c.args.done.machine c.args.task.now.trace c.prepare_done.new.trace c.args.system.now c.prepare_done.new.system c.note_own.new.dependencies c.args.done.pid
    c.prepare_done.new.history c.in-Ok.entering c.in-Ok.ensures.prepared c.in-Ok.ensures.holds (omega (arith, room, left))

pub returns-clause-done : goal.returns-clause-done
returns-clause-done c =
    let t : Task = c.args.task.now in
    let s = c.args.system.now in
    let s1 = c.prepare_done.new.system in
    let turned = c.note_own.new.dependencies in
    let m = c.args.done.machine in
    let middle : Task = record t { whereabouts = Here m } in
    let prepared = c.in-Ok.ensures.prepared in
    let same = c.in-Ok.ensures.trace in
    let back = c.come_back.ensures.back in (
      c.carry_out-outcome.result.0,
      refl,
      record {
        middle = middle;
        back = record { pid = refl; machine = refl; trace = record { items = refl; committed = refl }; waited = refl; loans = refl; out = refl };
        marks = turned.marks;
        turn = subst (λ (ms : List Marked). IsOwnNoted c.args.done.pid ms turned.marks) prepared.changed.marks c.note_own.ensures.noted;
        entered =
            carried-done c.args.done.pid m middle c.come_back.new.task c.carry_out-outcome.new.task (marked_with s turned.marks) (record s1 { dependencies = turned })
            c.carry_out-outcome.new.system c.in-Ok.entering c.carry_out-outcome.result.0 (unboxed c.carry_out-outcome.result.1) refl
            (record { entering = prepared.entering; changed = shared-turned _ s s1 turned prepared.changed })
            (record {
              pid = back.pid;
              machine = back.machine;
              trace = record { items = back.trace.items ∙ same.items; committed = back.trace.committed ∙ same.committed };
              waited = back.waited;
              loans = back.loans;
              out = back.out;
            })
            c.carry_out-outcome.ensures.carried;
      },
    )

pub returns-clause-history : goal.returns-clause-history
returns-clause-history c =
    let turn : Event = Turn c.args.done.pid c.args.done.count in
    let pushed : c.push.new.self.items ≡ c.prepare_done.new.history.items ++ turn ∷ [] = search rules in
    c.carry_out-outcome.ensures.history
    ∙ ap (λ (es : List Event). es ++ Enter c.in-Ok.entering.pid ∷ []) (pushed ∙ ap (λ (es : List Event). es ++ turn ∷ []) c.in-Ok.ensures.history)
    ∙ append_assoc c.args.history.now.items (turn ∷ []) (Enter c.in-Ok.entering.pid ∷ [])
    ∙ ap (λ (k : ℕ). c.args.history.now.items ++ turn ∷ Enter k ∷ []) c.in-Ok.ensures.prepared.entering.process
