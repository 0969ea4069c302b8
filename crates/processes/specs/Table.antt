-- The table of processes, as its callers see it.
use Rattle.std.specs.Prelude.{ℕ, zero, suc, ◌<◌, List, slice_index}
use Rattle.processes.specs.Parts.{Part}

-- The parts of all processes, and the memory that is taken already: for how many processes more, and for how many children
-- more of each process.
pub record Table : Type 0 where
  pub parts : List Part
  pub room : ℕ
  pub child_rooms : List ℕ

-- for how many children more of process p memory is taken
abbrev pub child_room : List ℕ → ℕ → ℕ
child_room rooms zero = 0
child_room rooms (suc k) = slice_index rooms k

-- memory is taken for a fork of process p
pub record HasRoom (table : Table) (p : ℕ) : Type 0 where
  pub process : 0 < table.room
  pub child : 0 < child_room table.child_rooms p
