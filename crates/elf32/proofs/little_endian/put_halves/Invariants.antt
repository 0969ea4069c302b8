-- The bytes of the halves so far.
use Rattle.std.proofs.Common.{◌≡◌, ◌++◌, take}
use Rattle.elf32.specs.Files.{bytes_of_halves}
use Rattle.elf32.proofs.little_endian.put_halves.Given as goal

abbrev pub invariant-loop-half : goal.invariant-loop-half
invariant-loop-half l = l.bytes.items ≡ l.initial.bytes.items ++ bytes_of_halves (take l.half-index l.halves)
