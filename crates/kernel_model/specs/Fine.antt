-- Runs by single instructions.
use Rattle.std.specs.Prelude.{◌≡◌, ℕ, ◌+◌, ◌==◌, Bool, true, false, if◌then◌else◌, List, [], ◌∷◌, ◌++◌, replicate, Option, Some, None, is_some}
use Rattle.machine_model.specs.States.{run, stopped_at}
use Rattle.kernel_model.specs.State.{Process, process_at}
use Rattle.kernel_model.specs.World.{World, happens}
use Rattle.kernel_model.specs.declared.event.Event.{Event}
use Rattle.kernel_model.specs.declared.event.Event.TheVariants.{Turn, Enter, Cut, Complete, Fail}

-- an item of a fine run: one instruction of a process, or an event that is no Turn
pub data Fine : Type 0 where
  Instruction : (pid : ℕ) → Fine
  Other : Event → Fine

-- the item as an event
abbrev pub event_of : Fine → Event
event_of (Instruction pid) = Turn pid 1
event_of (Other e) = e

-- These events with one more instruction of process p, which comes before them: it goes into p's next Turn, and becomes a
-- Turn of its own where an Enter of p or the end comes first.
abbrev pub delayed : ℕ → List Event → List Event
delayed p [] = Turn p 1 ∷ []
delayed p (Turn q n ∷ es) = if q == p then Turn q (n + 1) ∷ es else Turn q n ∷ delayed p es
delayed p (Enter q ∷ es) = if q == p then Turn p 1 ∷ Enter q ∷ es else Enter q ∷ delayed p es
delayed p (Cut ∷ es) = Cut ∷ delayed p es
delayed p (Complete at ∷ es) = Complete at ∷ delayed p es
delayed p (Fail at ∷ es) = Fail at ∷ delayed p es

-- The events that a fine run becomes. Its items that are no instructions stay, in order. Before each Enter stands one Turn of
-- all instructions of its process since the process's last Enter, where there are any; and what is left of each process
-- becomes one Turn after all other items.
abbrev pub gathered : List Fine → List Event
gathered [] = []
gathered (Instruction p ∷ items) = delayed p (gathered items)
gathered (Other e ∷ items) = e ∷ gathered items

-- the process is there, has not ended, and stands at no call and no trap
abbrev pub may_go : Option Process → Bool
may_go None = false
may_go (Some p) = if is_some p.status then false else if is_some (stopped_at p.state) then false else true

-- no Turn stands among the other events, and each instruction can be done where it stands
abbrev pub IsFine : World → List Fine → Type 0
IsFine w [] = Unit {0}
IsFine w (Instruction p ∷ items) = (may_go (process_at w.sync.processes p) ≡ true) × IsFine (happens w (Turn p 1)) items
IsFine w (Other (Turn p n) ∷ items) = ⊥
IsFine w (Other e ∷ items) = IsFine (happens w e) items

-- the run after these items, the first of them first
abbrev pub after_fine : World → List Fine → World
after_fine w [] = w
after_fine w (item ∷ items) = after_fine (happens w (event_of item)) items

-- how many instructions a Turn of at most n runs of a process; none where it is not there or has ended
abbrev pub turn_length : Option Process → ℕ → ℕ
turn_length None n = 0
turn_length (Some p) n = if is_some p.status then 0 else (run n p.state).count

-- an event written out: a Turn as the instructions that it runs, one by one, and any other event as it is
abbrev pub written_out : World → Event → List Fine
written_out w (Turn pid n) = replicate (turn_length (process_at w.sync.processes pid) n) (Instruction pid)
written_out w (Enter pid) = Other (Enter pid) ∷ []
written_out w Cut = Other Cut ∷ []
written_out w (Complete at) = Other (Complete at) ∷ []
written_out w (Fail at) = Other (Fail at) ∷ []

-- the fine run that these events are, with each Turn written out
abbrev pub unfolded : World → List Event → List Fine
unfolded w [] = []
unfolded w (e ∷ es) = written_out w e ++ unfolded (happens w e) es
