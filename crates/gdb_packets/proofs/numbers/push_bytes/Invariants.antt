-- The digits of the bytes so far.
use Rattle.std.proofs.Common.{◌≡◌, ◌++◌}
use Rattle.std.specs.Prelude.{take}
use Rattle.gdb_packets.specs.Digits.{hex_of}
use Rattle.gdb_packets.proofs.numbers.push_bytes.Given as goal

abbrev pub invariant-loop-byte : goal.invariant-loop-byte
invariant-loop-byte l = l.out.items ≡ l.initial.out.items ++ hex_of (take l.byte-index l.bytes)
