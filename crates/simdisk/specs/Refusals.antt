-- The numbers of refusals.
use Rattle.std.specs.Prelude.{ℕ}
use Rattle.simdisk.specs.declared.refusal.DiskRefusal.{DiskRefusal}
use Rattle.simdisk.specs.declared.refusal.DiskRefusal.TheVariants.{NoSuchWrite, OutOfRange, OutOfMemory, BadLength}

abbrev pub number_of : DiskRefusal → ℕ
number_of NoSuchWrite = 1
number_of OutOfRange = 2
number_of OutOfMemory = 3
number_of BadLength = 4
