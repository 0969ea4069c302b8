-- The carriers that an Enter reads begin where its ends say.
use Rattle.std.proofs.Common.{arith, length, sym, ap, ◌∙◌}
use Rattle.kernel_model.specs.Entries.{Entry}
use Rattle.footprints.proofs.Placing.{kept_at, within_at}
use Rattle.footprints.proofs.footprints.read_by.Goals as goal

pub part_of-requires-clause-order : goal.part_of-requires-clause-order
part_of-requires-clause-order c = (within_at c.args.ends.now (length c.args.carriers.now) c.args.name c.requires.within c.requires.there).starts

pub part_of-requires-clause-within : goal.part_of-requires-clause-within
part_of-requires-clause-within c =
    let within = within_at c.args.ends.now (length c.args.carriers.now) c.args.name c.requires.within c.requires.there in
    omega (arith, within.reads, within.writes)

pub returns : goal.returns
returns c = c.part_of.ensures ∙ sym (ap (λ (e : Entry). e.reads) (kept_at c.args.ends.now c.args.carriers.now c.args.name c.requires.there))
