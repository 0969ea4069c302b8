-- The entry at the process's place is written.
use Rattle.std.proofs.Common.{[], ◌∷◌, ap, sym, ◌∙◌}
use Rattle.processes.specs.Parts.{with_slots}
use Rattle.processes.specs.Entries.{Entry}
use Rattle.processes.specs.Table.{Table}
use Rattle.processes.proofs.Placing.{with_part-place}
use Rattle.kernel_model.specs.Steps.{after_reply}
use Rattle.processes.proofs.Following.{with_part-process, part_of-slots}
use Rattle.processes.proofs.table.ProcTable.set.Goals as goal

pub returns-in-Some-clause-exact : goal.returns-in-Some-clause-exact
returns-in-Some-clause-exact c =
    with_part-place c.args.pid c.in-Some.place c.self.inside.entries.items c.args.self.now.parts c.index_mut-entry.result.now
    c.set.new.self (with_slots (c.args.slot ∷ [])) (ap (λ (t : Table). t.parts) c.self.view_is) (sym c.place.ensures ∙ c.in-Some.is)
    c.index_mut-entry.ensures.value (ap (λ (e : Entry). e.part) c.set.ensures)

pub returns-in-Some-clause-replied : goal.returns-in-Some-clause-replied
returns-in-Some-clause-replied c =
    λ ps p e r follows found lives edits collects none. returns-in-Some-clause-exact c
    ∙ with_part-process c.args.pid ps c.args.self.now.parts p (after_reply p e r) (with_slots (c.args.slot ∷ [])) follows found
    (part_of-slots p e r (c.args.slot ∷ []) lives edits collects none)
