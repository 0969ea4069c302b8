-- Carriers, and the log: what each event of a run did.
use Rattle.std.specs.Prelude.{ℕ, ◌==◌, Bool, true, false, List, Option}
use Rattle.std.specs.List.{list_any}
use Rattle.disk_model.specs.declared.change.Change.{Change}
use Rattle.machine_model.specs.declared.reply.Reply.{Reply}
use Rattle.kernel_model.specs.declared.carrier.Carrier.{Carrier}
use Rattle.kernel_model.specs.declared.carrier.Carrier.TheVariants.{Proc, File, Names, Pipe, Pipes, Tasks, Tape}
use Rattle.kernel_model.specs.declared.effect.Output.{Output}

-- two carriers are one
abbrev pub is_same : Carrier → Carrier → Bool
is_same (Proc a) (Proc b) = a == b
is_same (File a) (File b) = a == b
is_same Names Names = true
is_same (Pipe a) (Pipe b) = a == b
is_same Pipes Pipes = true
is_same Tasks Tasks = true
is_same (Tape a) (Tape b) = a == b
is_same _ _ = false

-- a carrier is among these
abbrev pub is_among : Carrier → List Carrier → Bool
is_among c cs = list_any (is_same c) cs

-- some carrier is among both
abbrev pub meets : List Carrier → List Carrier → Bool
meets xs ys = list_any (λ x. is_among x ys) xs

-- what a process is told: a reply to a call, and last that it has ended
pub data Item : Type 0 where
  Got : Reply → Item
  End : (status : ℕ) → Item

-- an entry of the log: what an event did
pub record Entry : Type 0 where
  pub process : ℕ  -- the number of the process whose event it is; 0 for the disk's events
  pub reads : List Carrier
  pub writes : List Carrier
  pub change : Option Change
  pub output : Option Output
  pub item : Option Item  -- what the process was told
  pub child : Option ℕ  -- the number of the process that it made
