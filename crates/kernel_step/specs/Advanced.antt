-- What a commit does to screens and traces.
use Rattle.std.specs.Prelude.{◌≡◌, ℕ, List, length, slice_get, Some}
use Rattle.held_output.specs.Withheld.{Withheld}
use Rattle.kernel_step.specs.Tasks.{machine_of, out_of}
use Rattle.kernel_step.specs.declared.task.Task.{Task}

-- the same items, where c changes are committed now
pub record IsAdvanced {A : Type 0} (c : ℕ) (old new : Withheld A) : Type 0 where
  pub items : new.items ≡ old.items
  pub committed : new.committed ≡ c

-- all screens after c changes are committed
pub record AreAdvanced (c : ℕ) (old new : List (Withheld ℕ)) : Type 0 where
  pub count : length new ≡ length old
  pub each : (t : ℕ) (s : Withheld ℕ) → slice_get new t ≡ Some s → (before : Withheld ℕ) × (slice_get old t ≡ Some before) × IsAdvanced c before s

-- the task after c changes are committed
pub record IsMoved (c : ℕ) (old new : Task) : Type 0 where
  pub number : new.pid ≡ old.pid
  pub machine : machine_of new ≡ machine_of old
  pub loans : new.loans ≡ old.loans
  pub out : out_of new ≡ out_of old
  pub trace : IsAdvanced c old.trace new.trace
  pub waited : new.waited ≡ old.waited

-- all tasks after c changes are committed
pub record AreMoved (c : ℕ) (old new : List Task) : Type 0 where
  pub count : length new ≡ length old
  pub each : (i : ℕ) (t : Task) → slice_get new i ≡ Some t → (before : Task) × (slice_get old i ≡ Some before) × IsMoved c before t
