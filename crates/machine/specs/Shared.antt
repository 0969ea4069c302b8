-- What a machine stands for that may be shared.
use Rattle.std.specs.Prelude.{Bool, true, false, [], None}
use Rattle.memory_model.specs.Memory.{memory_of}
use Rattle.machine_model.specs.States.{State, state, architectural}
use Rattle.machine.specs.declared.shared.Form.{Form}
use Rattle.machine.specs.declared.shared.Form.TheVariants.{Whole, Still, Gone}

-- its state, whether it is a machine or is to be copied from one; a place that was left has any
abbrev pub state_of : Form → State
state_of (Whole m) = m
state_of (Still s) = s
state_of Gone = state (architectural [] 0 (memory_of (λ _. None))) 0

-- there is a machine
abbrev pub is_there : Form → Bool
is_there (Whole m) = true
is_there (Still s) = true
is_there Gone = false

-- it is a machine, which nobody else looks at
abbrev pub is_whole : Form → Bool
is_whole (Whole m) = true
is_whole (Still s) = false
is_whole Gone = false

-- it is to be copied from a machine that others look at
abbrev pub is_still : Form → Bool
is_still (Whole m) = false
is_still (Still s) = true
is_still Gone = false
