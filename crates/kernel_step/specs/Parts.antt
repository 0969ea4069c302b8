-- What an event does to the parts of a running kernel.
use Rattle.std.specs.Prelude.{◌≡◌, ℕ, List, [], ◌∷◌, ◌++◌, None}
use Rattle.kernel_model.specs.declared.answer.Answer.{Answer}
use Rattle.kernel_model.specs.declared.answer.Answer.TheVariants as answer_of
use Rattle.machine_model.specs.declared.stop.Stop.{Stop}
use Rattle.commit_deps.specs.Kept.{Marked}
use Rattle.commit_deps.specs.Keeps.{Keeps}
use Rattle.kernel_model.specs.Entries.{Entry}
use Rattle.kernel_model.specs.Steps.{own_entry}
use Rattle.kernel_step.specs.Tasks.{RanAt}
use Rattle.kernel_step.specs.Tests.{turn_refusal_of, full_of, IsPlaceOf}
use Rattle.kernel_step.specs.declared.task.Task.{Task}

-- an event of process pid that touches nothing but the process is noted
abbrev pub IsOwnNoted : ℕ → List Marked → List Marked → Type 0
IsOwnNoted pid old new = (log : List Entry) → Keeps log old → Keeps (log ++ own_entry pid ∷ []) new

-- a Turn of at most n instructions was accepted, and did this
pub record Turned (events pid n : ℕ) (old new : List Task) (before later : List Marked) (a : Answer) : Type 0 where
  pub fine : turn_refusal_of old (full_of events old) pid n ≡ None
  pub place : ℕ
  pub placed : IsPlaceOf old pid place
  pub count : ℕ
  pub stop : Stop
  pub ran : RanAt old new place n count stop
  pub noted : IsOwnNoted pid before later
  pub answer : a ≡ answer_of.Ran count stop
