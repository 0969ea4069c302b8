-- The number of a fault.
use Rattle.std.specs.Prelude.{ℕ}
use Rattle.formats.specs.declared.constructors.FieldFault.{FieldFault}
use Rattle.formats.specs.declared.constructors.FieldFault.TheVariants.{Range}

abbrev pub number_of : FieldFault → ℕ
number_of Range = 1
