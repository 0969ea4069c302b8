-- What a fault says.
use Rattle.std.specs.Prelude.{ℕ, ◌+◌, ◌-◌, min, List, length, Result, Ok, Err}
use Rattle.asm_text.specs.{declared.fault.TextFault.TextFault, declared.token.Line.Line}
use Rattle.asm_text.specs.declared.fault.Cause as text
use Rattle.assembler.specs.{declared.fault.Cause.Cause, declared.fault.AsmFault.AsmFault}
use Rattle.assembler.specs.declared.fault.Cause.TheVariants.{Syntax, UnknownName, DoubleLabel, Range, NoStart, TooLarge, OutOfMemory}

abbrev pub number_of : Cause → ℕ
number_of Syntax = 1
number_of UnknownName = 2
number_of DoubleLabel = 3
number_of Range = 4
number_of NoStart = 5
number_of TooLarge = 6
number_of OutOfMemory = 7

-- a fault of the source as a whole stands at 1:1
abbrev pub whole : Cause → AsmFault
whole why = record { why = why; line = 1; column = 1 }

abbrev pub out_of_memory : AsmFault
out_of_memory = whole OutOfMemory

-- a fault at a place of the source that lies in a line; columns count its bytes from 1
abbrev pub fault_at : List ℕ → Line → Cause → ℕ → AsmFault
fault_at source line why at = record { why = why; line = line.number; column = min at (length source) - line.start + 1 }

abbrev pub cause_of : text.Cause → Cause
cause_of text.TheVariants.Syntax = Syntax
cause_of text.TheVariants.OutOfMemory = OutOfMemory

abbrev pub of_text : TextFault → AsmFault
of_text fault = record { why = cause_of fault.why; line = fault.line; column = fault.column }

abbrev pub at_line : {A : Type 0} → List ℕ → Line → Cause → Result A ℕ → Result A AsmFault
at_line source line why (Ok x) = Ok x
at_line source line why (Err at) = Err (fault_at source line why at)
