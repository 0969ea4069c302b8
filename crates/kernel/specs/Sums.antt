-- The sums of process numbers in a history.
use Rattle.std.specs.Prelude.{ℕ, Bool, true, false, List, sum_by, Some}
use Rattle.kernel_model.specs.declared.answer.Answer.{Answer}
use Rattle.kernel_model.specs.declared.answer.Answer.TheVariants.{Settled}
use Rattle.kernel_model.specs.declared.event.Event.{Event}
use Rattle.kernel_model.specs.declared.event.Event.TheVariants.{Turn, Enter, Cut, Complete, Fail}

-- the process number of a Turn, 0 of any other event
abbrev pub process_of_turn : Event → ℕ
process_of_turn (Turn pid n) = pid
process_of_turn (Enter pid) = 0
process_of_turn Cut = 0
process_of_turn (Complete at) = 0
process_of_turn (Fail at) = 0

-- the process number of an Enter, 0 of any other event
abbrev pub process_of_enter : Event → ℕ
process_of_enter (Turn pid n) = 0
process_of_enter (Enter pid) = pid
process_of_enter Cut = 0
process_of_enter (Complete at) = 0
process_of_enter (Fail at) = 0

-- the sum of the process numbers of the Turns among these events
abbrev pub sum_of_turns : List Event → ℕ
sum_of_turns events = sum_by process_of_turn events

-- the same of the Enters
abbrev pub sum_of_enters : List Event → ℕ
sum_of_enters events = sum_by process_of_enter events

-- a loan's result was taken back with this answer, and had an Enter
abbrev pub tells_enter : Answer → Bool
tells_enter (Settled count stop (Some outcome)) = true
tells_enter _ = false
