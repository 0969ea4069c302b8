-- What a fault says.
use Rattle.std.specs.Prelude.{◌≡◌, ℕ}
use Rattle.asm_text.specs.{declared.fault.Cause.Cause, declared.fault.Cause.TheVariants.Syntax, declared.fault.Cause.TheVariants.OutOfMemory, declared.fault.TextFault.TextFault}

abbrev pub number_of : Cause → ℕ
number_of Syntax = 1
number_of OutOfMemory = 2

abbrev pub out_of_memory : TextFault
out_of_memory = record { why = OutOfMemory; line = 1; column = 1 }

-- where a fault of each cause stands: one of syntax as given, want of memory at 1:1
abbrev pub StandsBy : Cause → (ℕ → ℕ → Type 0) → ℕ → ℕ → Type 0
StandsBy Syntax Is line column = Is line column
StandsBy OutOfMemory Is line column = (line ≡ 1) × (column ≡ 1)

abbrev pub Stands : (ℕ → ℕ → Type 0) → TextFault → Type 0
Stands Is fault = StandsBy fault.why Is fault.line fault.column
