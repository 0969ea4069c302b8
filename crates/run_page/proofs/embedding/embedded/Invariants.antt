-- What stands for the bytes so far.
use Rattle.std.proofs.Common.{◌≡◌}
use Rattle.std.specs.Prelude.{take}
use Rattle.std.specs.List.{flat_map}
use Rattle.run_page.specs.Embedding.{embedded_byte}
use Rattle.run_page.proofs.embedding.embedded.Given as goal

abbrev pub invariant-loop-byte : goal.invariant-loop-byte
invariant-loop-byte l = l.out.items ≡ flat_map embedded_byte (take l.byte-index l.json)
