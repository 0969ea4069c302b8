-- Each part of the entry is found by what was noted before.
use Rattle.std.proofs.Common.{◌≡◌, ◌∷◌, ◌++◌, [], ap, sym, subst, ◌∙◌, Option}
use Rattle.machine_model.specs.States.{State}
use Rattle.kernel_model.specs.Answers.{Kernel, now}
use Rattle.kernel_model.specs.Entries.{Entry}
use Rattle.kernel_model.specs.Steps.{step}
use Rattle.run_events.specs.Accepted.{IsMachineOf}
use Rattle.run_events.proofs.Growing.{log-grown, process-is, same-entry, same-record}
use Rattle.run_events.proofs.event_record.EventRecord.of.Goals as goal

pub returns-clause-told : goal.returns-clause-told
returns-clause-told c = λ k after.
    let e = c.args.event in
    let x : Entry = (step (now k).sync e).entry in
    let log : (now c.args.core.now).log ≡ (now k).log ++ x ∷ [] = ap (λ (n : Kernel). (now n).log) after.grown ∙ log-grown k e in
    let touched = c.touched_by-touched.ensures k after.grown in
    same-record k e c.args.answer _ _ _ after.answer after.before.call_site (c.as_ref.ensures.value ∙ after.before.request)
    (same-entry _ _ (sym (process-is (now k).sync e)) (ap (λ (f : Entry). f.reads) touched) (ap (λ (f : Entry). f.writes) touched)
    (c.change_since.ensures (now k).log x log after.before.changes) (c.output_since.ensures (now k).log x log after.before.written)
    (c.told_by_event.ensures k after.grown after.fine after.answer) (c.child_since.ensures k e after.grown after.before.processes))

pub returns-clause-machine : goal.returns-clause-machine
returns-clause-machine c = λ k after. subst (λ (o : Option State). IsMachineOf k c.args.event o) (sym c.as_ref-2.ensures.value) after.before.machine
