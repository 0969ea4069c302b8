-- The rest of the text ends as the whole text does.
use Rattle.std.proofs.Common.{◌≡◌, false}
use Rattle.std.specs.Prelude.{drop}
use Rattle.gdb_packets.specs.Reading.{ends_escaped}
use Rattle.gdb_packets.proofs.text.is_cut.Given as goal

abbrev pub invariant-loop-byte : goal.invariant-loop-byte
invariant-loop-byte l = ends_escaped l.is_escaped (drop l.byte-index l.text) ≡ ends_escaped false l.text
