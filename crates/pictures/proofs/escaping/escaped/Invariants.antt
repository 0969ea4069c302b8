-- What stands for the bytes so far.
use Rattle.std.proofs.Common.{◌≡◌}
use Rattle.std.specs.Prelude.{take}
use Rattle.std.specs.List.{flat_map}
use Rattle.pictures.specs.Escapes.{entity}
use Rattle.pictures.proofs.escaping.escaped.Given as goal

abbrev pub invariant-loop-byte : goal.invariant-loop-byte
invariant-loop-byte l = l.out.items ≡ flat_map entity (take l.byte-index l.text)
