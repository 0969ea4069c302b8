-- What stands for the bytes so far.
use Rattle.std.proofs.Common.{◌≡◌}
use Rattle.std.specs.Prelude.{take}
use Rattle.std.specs.List.{flat_map}
use Rattle.gdb_packets.specs.Framing.{escape_of}
use Rattle.gdb_packets.proofs.framing.text_of.Given as goal

abbrev pub invariant-loop-byte : goal.invariant-loop-byte
invariant-loop-byte l = l.text.items ≡ flat_map escape_of (take l.byte-index l.payload)
