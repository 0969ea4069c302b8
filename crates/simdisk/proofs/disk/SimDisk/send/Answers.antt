-- The pieces sent lie on the disk.
use Rattle.simdisk.proofs.Lists.{spaced_lie}
use Rattle.simdisk.proofs.disk.SimDisk.send.Goals as goal

pub invariant_of-self : goal.invariant_of-self
invariant_of-self c = (c.self.invariant.0, spaced_lie 2097152 c.args.pieces.items c.requires.room, c.self.invariant.2)
