-- The reads come last, and the writes after them.
use Rattle.std.proofs.Common.{rules}
use Rattle.footprints.proofs.Placing.{placed_last}
use Rattle.footprints.proofs.footprints.append_footprint.Goals as goal

pub returns-clause-placed : goal.returns-clause-placed
returns-clause-placed c =
    placed_last c.args.carriers.now.items c.args.reads.now c.args.writes.now _ _ _ _ _ c.append-read_to.ensures.items c.append-written_to.ensures.items (search rules) c.append-read_to.ensures.count c.append-written_to.ensures.count
