-- What it is for events to be a fine run's, gathered into Turns. The words here are of the items and of the events alone, and
-- not of how the events are made.
use Rattle.std.specs.Prelude.{◌≡◌, ℕ, zero, suc, ◌==◌, Bool, true, false, ◌||◌, if◌then◌else◌, List, [], ◌∷◌, ◌++◌}
use Rattle.kernel_model.specs.Fine.{Fine, Instruction, Other}
use Rattle.kernel_model.specs.declared.event.Event.{Event}
use Rattle.kernel_model.specs.declared.event.Event.TheVariants.{Turn, Enter}

-- no Turn stands among the items' other events
abbrev pub HasNoTurn : List Fine → Type 0
HasNoTurn [] = Unit {0}
HasNoTurn (Instruction p ∷ items) = HasNoTurn items
HasNoTurn (Other (Turn p n) ∷ items) = ⊥
HasNoTurn (Other e ∷ items) = HasNoTurn items

-- the items that are no instructions, in order
abbrev pub others : List Fine → List Event
others [] = []
others (Instruction p ∷ items) = others items
others (Other e ∷ items) = e ∷ others items

-- the events that are no Turns, in order
abbrev pub without_turns : List Event → List Event
without_turns [] = []
without_turns (Turn p n ∷ es) = without_turns es
without_turns (e ∷ es) = e ∷ without_turns es

-- whether the event is a Turn or an Enter of process p
abbrev pub is_of : ℕ → Event → Bool
is_of p (Turn q n) = q == p
is_of p (Enter q) = q == p
is_of p e = false

-- the Turns and Enters of process p, in order
abbrev pub of_process : ℕ → List Event → List Event
of_process p [] = []
of_process p (e ∷ es) = if is_of p e then e ∷ of_process p es else of_process p es

-- k instructions of process p as one Turn, and none where there are none
abbrev pub burst : ℕ → ℕ → List Event
burst p zero = []
burst p (suc k) = Turn p (suc k) ∷ []

-- process p's Enters among the items, with its instructions before each as one Turn, where k of them came before the items
abbrev pub bursts_from : ℕ → ℕ → List Fine → List Event
bursts_from p k [] = burst p k
bursts_from p k (Instruction q ∷ items) = if q == p then bursts_from p (suc k) items else bursts_from p k items
bursts_from p k (Other e ∷ items) = if is_of p e then burst p k ++ e ∷ bursts_from p 0 items else bursts_from p k items

-- The Enters of process p among the items, in order. Between two of them, before the first and after the last, p's
-- instructions stand as one Turn of as many as there are, or as none where there are none.
abbrev pub bursts_of : ℕ → List Fine → List Event
bursts_of p items = bursts_from p 0 items

-- whether the first event is process p's Enter
abbrev pub enters_first : ℕ → List Event → Bool
enters_first p (Enter q ∷ es) = q == p
enters_first p es = false

-- whether all events are Turns
abbrev pub are_turns : List Event → Bool
are_turns [] = true
are_turns (Turn p n ∷ es) = are_turns es
are_turns (e ∷ es) = false

-- each Turn has its process's Enter directly after it, or else nothing but Turns
abbrev pub HasLateTurns : List Event → Type 0
HasLateTurns [] = Unit {0}
HasLateTurns (Turn p n ∷ es) = ((enters_first p es || are_turns es) ≡ true) × HasLateTurns es
HasLateTurns (e ∷ es) = HasLateTurns es

-- These events are these items, gathered: what is no instruction stays, in order; of each process, its instructions since its
-- last Enter are one Turn; and each Turn comes as late as it can, directly before its process's next Enter, or at the end.
pub record IsGathered (items : List Fine) (es : List Event) : Type 0 where
  pub others_stay : without_turns es ≡ others items
  pub each_process : (p : ℕ) → of_process p es ≡ bursts_of p items
  pub late : HasLateTurns es
