-- The headers so far.
use Rattle.std.proofs.Common.{◌≡◌, length, take}
use Rattle.image_model.specs.Fields.{headers_in}
use Rattle.elf32.proofs.header.read_table.Given as goal

abbrev pub invariant-loop-k : goal.invariant-loop-k
invariant-loop-k l = record { size : length l.headers ≡ 4; kept : take l.k l.headers ≡ headers_in l.k l.bytes }
