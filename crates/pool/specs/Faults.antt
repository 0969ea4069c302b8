-- The numbers of a crew's faults.
use Rattle.std.specs.Prelude.{ℕ}
use Rattle.pool.specs.declared.fault.CrewFault.{CrewFault}
use Rattle.pool.specs.declared.fault.CrewFault.TheVariants.{Work, NoThread}

abbrev pub number_of : CrewFault → ℕ
number_of (Work fault) = 1
number_of NoThread = 2
