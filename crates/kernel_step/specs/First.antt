-- What the parts of a kernel are at boot.
use Rattle.std.specs.Prelude.{◌≡◌, ℕ, ◌+◌, List, [], ◌∷◌, length, slice_get, Some, None}
use Rattle.memory_model.specs.Access.{HoldsBytes}
use Rattle.machine_model.specs.First.{first_state}
use Rattle.processes.specs.Parts.{Part, boot_part}
use Rattle.held_output.specs.Withheld.{Withheld, nothing}
use Rattle.kernel_step.specs.Tasks.{machine_of, out_of}
use Rattle.kernel_step.specs.declared.booting.Program.{Program}
use Rattle.kernel_step.specs.declared.task.Task.{Task}

-- the task of the program at this place, from 0, before any event
pub record IsFirst (place : ℕ) (p : Program) (t : Task) : Type 0 where
  pub number : t.pid ≡ place + 1
  pub machine : machine_of t ≡ first_state p.image
  pub bytes : HoldsBytes (machine_of t).architectural.memory
  pub trace : t.trace ≡ nothing
  pub waited : t.waited ≡ None
  pub loans : t.loans ≡ 0
  pub out : out_of t ≡ None

-- the tasks of these programs, before any event
pub record AreFirst (programs : List Program) (tasks : List Task) : Type 0 where
  pub count : length tasks ≡ length programs
  pub each : (i : ℕ) (t : Task) → slice_get tasks i ≡ Some t → (p : Program) × (slice_get programs i ≡ Some p) × IsFirst i p t

-- the parts of these programs' processes before any event, the first of which reads tape i
abbrev pub parts_from : ℕ → List Program → List Part
parts_from i [] = []
parts_from i (p ∷ ps) = boot_part i p.terminal ∷ parts_from (i + 1) ps

-- so many screens with no bytes
pub record AreEmpty (count : ℕ) (screens : List (Withheld ℕ)) : Type 0 where
  pub size : length screens ≡ count
  pub each : (t : ℕ) (s : Withheld ℕ) → slice_get screens t ≡ Some s → s ≡ nothing
