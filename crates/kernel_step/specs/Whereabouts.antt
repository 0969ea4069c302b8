-- What may be told of a process's machine, wherever it is.
use Rattle.std.specs.Prelude.{ℕ, Option, Some, None}
use Rattle.machine_model.specs.States.{State}
use Rattle.kernel_step.specs.declared.whereabouts.Whereabouts.{Whereabouts}
use Rattle.kernel_step.specs.declared.whereabouts.Whereabouts.TheVariants.{Here, Out}

-- its state, or that with which it was lent
abbrev pub state_in : Whereabouts → State
state_in (Here m) = m
state_in (Out began quantum) = began.value

-- the quantum of the loan on which it is out
abbrev pub quantum_in : Whereabouts → Option ℕ
quantum_in (Here m) = None
quantum_in (Out began quantum) = Some quantum
