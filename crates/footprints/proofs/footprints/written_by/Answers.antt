-- The carriers that an Enter writes come after those that it reads.
use Rattle.std.proofs.Common.{length, sym, ap, ◌∙◌}
use Rattle.kernel_model.specs.Entries.{Entry}
use Rattle.footprints.proofs.Placing.{kept_at, within_at}
use Rattle.footprints.proofs.footprints.written_by.Goals as goal

pub part_of-requires-clause-order : goal.part_of-requires-clause-order
part_of-requires-clause-order c = (within_at c.args.ends.now (length c.args.carriers.now) c.args.name c.requires.within c.requires.there).reads

pub part_of-requires-clause-within : goal.part_of-requires-clause-within
part_of-requires-clause-within c = (within_at c.args.ends.now (length c.args.carriers.now) c.args.name c.requires.within c.requires.there).writes

pub returns : goal.returns
returns c = c.part_of.ensures ∙ sym (ap (λ (e : Entry). e.writes) (kept_at c.args.ends.now c.args.carriers.now c.args.name c.requires.there))
