-- What came so far, and what the rest of the bytes completes.
use Rattle.std.proofs.Common.{◌≡◌}
use Rattle.std.specs.Prelude.{◌++◌, drop}
use Rattle.gdb_packets.specs.Reading.{arrivals, reading_after}
use Rattle.gdb_packets.proofs.reader.Reader.read.Given as goal

abbrev pub invariant-loop-byte : goal.invariant-loop-byte
invariant-loop-byte l = record {
  came : l.came.items ++ arrivals l.self (drop l.byte-index l.bytes) ≡ arrivals l.initial.self l.bytes;
  after : reading_after l.self (drop l.byte-index l.bytes) ≡ reading_after l.initial.self l.bytes;
}
