use Rattle.std.proofs.Common.{◌≡◌, drop}
use Rattle.journal.specs.Reading.{all_name_bytes}
use Rattle.journal.proofs.reading.are_name_bytes.Given as goal

abbrev pub invariant-loop-byte : goal.invariant-loop-byte
invariant-loop-byte l = all_name_bytes (drop l.byte-index l.bytes) ≡ all_name_bytes l.bytes
