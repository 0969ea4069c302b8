-- What stays known of loans.
use Rattle.std.specs.Prelude.{ℕ}
use Rattle.machine_model.specs.States.{State}
use Rattle.kernel_model.specs.Answers.{Kernel}
use Rattle.kernel_step.specs.Known.{IsKnownLoan}

-- what was known of a loan of the one core is known of it at the other
abbrev pub StaysKnown : Kernel → Kernel → Type 0
StaysKnown old new = (p n : ℕ) (s : State) → IsKnownLoan old p n s → IsKnownLoan new p n s
