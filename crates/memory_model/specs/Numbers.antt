-- The numbers of faults.
use Rattle.std.specs.Prelude.{ℕ}
use Rattle.memory_model.specs.declared.access.BusFault.{BusFault}
use Rattle.memory_model.specs.declared.access.BusFault.TheVariants.{Unmapped, NoRight, Misaligned}

abbrev pub fault_number : BusFault → ℕ
fault_number Unmapped = 1
fault_number NoRight = 2
fault_number Misaligned = 3
