use Rattle.std.proofs.Common.{lit≤}
use Rattle.gdb_packets.specs.Reading.{outside}
use Rattle.gdb_packets.proofs.Bounds.{bound_after}
use Rattle.gdb_packets.proofs.laws.texts_are_bounded.Goals as goal

pub returns : goal.returns
returns c = λ bytes. bound_after bytes outside (lit≤ tt)
