-- What a check of a source finds.
use Rattle.std.specs.Prelude.{ℕ, List}
use Rattle.assembler.specs.{Assembly.Assembles, Assembly.FaultOf, declared.fault.AsmFault.AsmFault, declared.fault.Cause.Cause}
use Rattle.assembler.specs.declared.fault.Cause.TheVariants.{NoStart, TooLarge, OutOfMemory}
use Rattle.source_checks.specs.{declared.checking.Checked.Checked, declared.checking.Checked.TheVariants.Refused, declared.checking.Checked.TheVariants.Passed}

-- a source was checked: a fault is its first one, and without a fault it assembles to the image and the listing
abbrev pub IsChecked : List ℕ → Checked → Type 0
IsChecked source (Refused fault) = FaultOf source fault
IsChecked source (Passed image listing warnings) = Assembles source image listing

-- where a fault comes among others: by its line, and one of the source as a whole after all lines
abbrev pub place_by : Cause → ℕ → ℕ
place_by NoStart line = 18446744073709551615
place_by TooLarge line = 18446744073709551615
place_by OutOfMemory line = 18446744073709551615
place_by _ line = line

abbrev pub place_among : AsmFault → ℕ
place_among fault = place_by fault.why fault.line
