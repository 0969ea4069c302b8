-- The entry at the process's place is written.
use Rattle.std.proofs.Common.{ap, sym, ◌∙◌}
use Rattle.processes.specs.Parts.{without_child}
use Rattle.processes.specs.Table.{Table}
use Rattle.processes.proofs.Placing.{with_part-place}
use Rattle.kernel_model.specs.Steps.{after_reply}
use Rattle.processes.proofs.Following.{with_part-process, part_of-collects}
use Rattle.processes.proofs.table.ProcTable.collect.Goals as goal

pub returns-in-Some-clause-exact : goal.returns-in-Some-clause-exact
returns-in-Some-clause-exact c =
    with_part-place c.args.pid c.in-Some.place c.self.inside.entries.items c.args.self.now.parts c.index_mut-parent.result.now
    c.collect.new.self (without_child c.args.child) (ap (λ (t : Table). t.parts) c.self.view_is) (sym c.place.ensures ∙ c.in-Some.is)
    c.index_mut-parent.ensures.value (c.collect.ensures)

pub returns-in-Some-clause-replied : goal.returns-in-Some-clause-replied
returns-in-Some-clause-replied c =
    λ ps p e r follows found lives edits collects none. returns-in-Some-clause-exact c
    ∙ with_part-process c.args.pid ps c.args.self.now.parts p (after_reply p e r) (without_child c.args.child) follows found
    (part_of-collects p e r c.args.child lives edits collects none)
