-- The entry at the process's place is written.
use Rattle.std.proofs.Common.{refl, ap, sym, ◌∙◌}
use Rattle.processes.specs.Parts.{ended_part}
use Rattle.processes.specs.Entries.{Entry}
use Rattle.processes.specs.Table.{Table}
use Rattle.processes.proofs.Placing.{with_part-place}
use Rattle.kernel_model.specs.Steps.{after_end}
use Rattle.processes.proofs.Following.{with_part-process}
use Rattle.processes.proofs.table.ProcTable.end.Goals as goal

pub returns-in-Some-clause-exact : goal.returns-in-Some-clause-exact
returns-in-Some-clause-exact c =
    with_part-place c.args.pid c.in-Some.place c.self.inside.entries.items c.args.self.now.parts c.index_mut-ended.result.now
    c.end.new.self (ended_part c.args.status) (ap (λ (t : Table). t.parts) c.self.view_is) (sym c.place.ensures ∙ c.in-Some.is)
    c.index_mut-ended.ensures.value (ap (λ (e : Entry). e.part) c.end.ensures)

pub returns-in-Some-clause-ended : goal.returns-in-Some-clause-ended
returns-in-Some-clause-ended c =
    λ ps p follows found. returns-in-Some-clause-exact c
    ∙ with_part-process c.args.pid ps c.args.self.now.parts p (after_end p c.args.status) (ended_part c.args.status) follows found refl
