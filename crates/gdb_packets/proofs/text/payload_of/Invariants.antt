-- The payload so far, and that of the rest of the text.
use Rattle.std.proofs.Common.{◌≡◌, false}
use Rattle.std.specs.Prelude.{◌++◌, drop}
use Rattle.gdb_packets.specs.Reading.{unescaped}
use Rattle.gdb_packets.proofs.text.payload_of.Given as goal

abbrev pub invariant-loop-byte : goal.invariant-loop-byte
invariant-loop-byte l = l.payload.items ++ unescaped l.is_escaped (drop l.byte-index l.text) ≡ unescaped false l.text
