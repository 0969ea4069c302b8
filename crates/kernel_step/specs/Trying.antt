-- What a Turn and an Enter do to a running kernel.
use Rattle.std.specs.Prelude.{◌≡◌, ℕ, ◌+◌, ◌*◌, ◌^◌, ◌<◌, ◌≤◌, Bool, [], ◌∷◌, ◌++◌, length, map, None}
use Rattle.kernel_model.specs.Answers.{entered, outcome_of, with_child}
use Rattle.kernel_model.specs.Limits.{KeepLimits}
use Rattle.kernel_model.specs.Ran.{ran_in}
use Rattle.kernel_model.specs.Steps.{step}
use Rattle.kernel_model.specs.World.{World, happens}
use Rattle.kernel_model.specs.declared.answer.Answer.{Answer}
use Rattle.kernel_model.specs.declared.event.Event.TheVariants.{Turn, Enter}
use Rattle.kernel_step.specs.Coning.{IsFootprintNoted}
use Rattle.kernel_step.specs.Mirrors.{Mirrors}
use Rattle.kernel_step.specs.Parts.{Turned}
use Rattle.kernel_step.specs.Tasks.{lending_of, count_out}
use Rattle.kernel_step.specs.Tests.{full_of, enter_refusal_of}
use Rattle.kernel_step.specs.declared.running.Running.{Running}

-- the history has no room for one more event, with two kept for each loan that is out
abbrev pub is_history_full : Running → Bool
is_history_full r = full_of (length r.history.items) r.tasks.items

-- ---- a Turn

-- a Turn may be tried: the loans that are out are counted; the history, with two events kept for each, is not too long, and there is
-- room to count what runs
pub record MayTryTurn (r : Running) : Type 0 where
  pub kept : r.out ≡ count_out r.tasks.items
  pub room : length r.history.items + 2 * count_out r.tasks.items ≤ 2 ^ 40
  pub few : r.ran < 2 ^ 63

-- process pid ran at most n instructions: its task, the marks, the history and the count of instructions say so, and nothing else
-- has changed
pub record IsTurnAccepted (pid n : ℕ) (old new : Running) (a : Answer) : Type 0 where
  pub turned : Turned (length old.history.items) pid n old.tasks.items new.tasks.items old.system.dependencies.marks new.system.dependencies.marks a
  pub system : new.system ≡ record old.system { dependencies = new.system.dependencies }
  pub history : new.history.items ≡ old.history.items ++ Turn pid n ∷ []
  pub ran : new.ran ≡ old.ran + ran_in a
  pub out : new.out ≡ old.out
  pub last_lent : new.last_lent ≡ old.last_lent

-- a Turn was refused, and nothing has changed, though there may be room for more
pub record IsTurnRefused (old new : Running) : Type 0 where
  pub tasks : new.tasks.items ≡ old.tasks.items
  pub marks : new.system.dependencies.marks ≡ old.system.dependencies.marks
  pub system : new.system ≡ record old.system { dependencies = new.system.dependencies }
  pub history : new.history.items ≡ old.history.items
  pub ran : new.ran ≡ old.ran
  pub out : new.out ≡ old.out
  pub last_lent : new.last_lent ≡ old.last_lent

-- ---- an Enter

-- an Enter may be tried: the parts keep what some run says, whose tables keep their limits; the loans that are out are counted, and
-- the history, with two events kept for each, is not too long
pub record MayTryEnter (r : Running) : Type 0 where
  pub world : World
  pub mirrors : Mirrors world r.tasks.items r.system
  pub limits : KeepLimits world.sync
  pub short : length world.log ≤ 2 ^ 40
  pub kept : r.out ≡ count_out r.tasks.items
  pub room : length r.history.items + 2 * count_out r.tasks.items ≤ 2 ^ 40

-- process pid entered the kernel: of whatever run the parts kept what it said, they do so after the Enter, which comes to this
-- answer
pub record IsEnterAccepted (pid : ℕ) (old new : Running) (a : Answer) : Type 0 where
  pub fine : enter_refusal_of old.tasks.items (is_history_full old) pid ≡ None
  pub answer : (w : World) → Mirrors w old.tasks.items old.system → a ≡ entered (outcome_of (step w.sync (Enter pid)).entry.item)
  pub mirrors : (w : World) → Mirrors w old.tasks.items old.system → Mirrors (happens w (Enter pid)) new.tasks.items new.system
  pub footprint : (w : World) → Mirrors w old.tasks.items old.system
      → IsFootprintNoted pid (step w.sync (Enter pid)).entry old.system.footprints.footprints new.system.footprints.footprints
  pub lendings : (w : World) → Mirrors w old.tasks.items old.system → map lending_of new.tasks.items ≡ with_child (map lending_of old.tasks.items) (step w.sync (Enter pid)).entry.child
  pub history : new.history.items ≡ old.history.items ++ Enter pid ∷ []
  pub ran : new.ran ≡ old.ran
  pub out : new.out ≡ old.out
  pub last_lent : new.last_lent ≡ old.last_lent

-- an Enter was refused: of whatever run the parts kept what it said, they still do, and loans, history and counts are the same
pub record IsEnterRefused (old new : Running) : Type 0 where
  pub mirrors : (w : World) → Mirrors w old.tasks.items old.system → Mirrors w new.tasks.items new.system
  pub footprints : new.system.footprints.footprints ≡ old.system.footprints.footprints
  pub lendings : map lending_of new.tasks.items ≡ map lending_of old.tasks.items
  pub history : new.history.items ≡ old.history.items
  pub ran : new.ran ≡ old.ran
  pub out : new.out ≡ old.out
  pub last_lent : new.last_lent ≡ old.last_lent
