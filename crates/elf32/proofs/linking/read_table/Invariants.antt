-- The headers so far.
use Rattle.std.proofs.Common.{◌≡◌}
use Rattle.image_model.specs.Fields.{headers_in}
use Rattle.elf32.proofs.linking.read_table.Given as goal

abbrev pub invariant-loop-k : goal.invariant-loop-k
invariant-loop-k l = l.headers.items ≡ headers_in l.k l.bytes
