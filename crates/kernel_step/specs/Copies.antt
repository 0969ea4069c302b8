-- What a copy of a running kernel's parts has in common with them: all but the room that is reserved.
use Rattle.std.specs.Prelude.{◌≡◌, ℕ, List, Option, map}
use Rattle.machine_model.specs.States.{State}
use Rattle.kernel_model.specs.Entries.{Item}
use Rattle.held_output.specs.Withheld.{Withheld, Held}
use Rattle.kernel_step.specs.Tasks.{machine_of, out_of}
use Rattle.kernel_step.specs.declared.system.System.{System}
use Rattle.kernel_step.specs.declared.task.Task.{Task}

-- a process without the room that its trace has
pub record TaskParts : Type 0 where
  pub pid : ℕ
  pub machine : State
  pub out : Option ℕ
  pub items : List (Held Item)
  pub committed : ℕ
  pub waited : Option ℕ
  pub loans : ℕ

abbrev pub parts_of : Task → TaskParts
parts_of t = record { pid = t.pid; machine = machine_of t; out = out_of t; items = t.trace.items; committed = t.trace.committed; waited = t.waited; loans = t.loans }

-- what a terminal shows and holds back, without the room that it has
pub record ScreenParts : Type 0 where
  pub items : List (Held ℕ)
  pub committed : ℕ

abbrev pub screen_of : Withheld ℕ → ScreenParts
screen_of s = record { items = s.items; committed = s.committed }

-- all that processes share is the same
pub record IsSameSystem (s copy : System) : Type 0 where
  pub marks : copy.dependencies.marks ≡ s.dependencies.marks
  pub footprints : copy.footprints.footprints ≡ s.footprints.footprints
  pub changes : copy.changes.items ≡ s.changes.items
  pub files : copy.files ≡ s.files
  pub tapes : copy.tapes ≡ s.tapes
  pub pipes : copy.pipes ≡ s.pipes
  pub processes : copy.processes.parts ≡ s.processes.parts
  pub served : copy.served ≡ s.served
  pub screens : map screen_of copy.screens.items ≡ map screen_of s.screens.items
  pub committer : copy.committer ≡ s.committer
