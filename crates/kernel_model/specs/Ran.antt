-- How many instructions the Turns of a run ran.
use Rattle.std.specs.Prelude.{ℕ, ◌+◌, List, [], ◌∷◌, Option, Some, None}
use Rattle.machine_model.specs.States.{run}
use Rattle.kernel_model.specs.State.{Process, process_at}
use Rattle.kernel_model.specs.World.{World, first_world, happens}
use Rattle.kernel_model.specs.Answers.{Kernel}
use Rattle.kernel_model.specs.declared.answer.Answer.{Answer}
use Rattle.kernel_model.specs.declared.answer.Answer.TheVariants.{Ran, Settled}
use Rattle.kernel_model.specs.declared.event.Event.{Event}
use Rattle.kernel_model.specs.declared.event.Event.TheVariants.{Turn, Enter, Cut, Complete, Fail}

-- how many instructions a process, if it is there, runs of at most n
abbrev pub instructions_of : Option Process → ℕ → ℕ
instructions_of None n = 0
instructions_of (Some p) n = (run n p.state).count

-- how many instructions an event runs: those of a Turn, and no others
abbrev pub instructions_in : World → Event → ℕ
instructions_in w (Turn pid n) = instructions_of (process_at w.sync.processes pid) n
instructions_in w (Enter pid) = 0
instructions_in w Cut = 0
instructions_in w (Complete at) = 0
instructions_in w (Fail at) = 0

-- how many instructions these events run, the first of them first
abbrev pub instructions_from : World → List Event → ℕ
instructions_from w [] = 0
instructions_from w (e ∷ es) = instructions_in w e + instructions_from (happens w e) es

-- how many instructions the Turns of a core's history ran
abbrev pub ran_by_turns : Kernel → ℕ
ran_by_turns k = instructions_from (first_world k.boot) k.history

-- how many instructions an answer says that were run
abbrev pub ran_in : Answer → ℕ
ran_in (Ran count stop) = count
ran_in (Settled count stop outcome) = count
ran_in _ = 0
