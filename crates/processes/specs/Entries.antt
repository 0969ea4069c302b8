-- One process of the table.
use Rattle.std.specs.Prelude.{ℕ}
use Rattle.processes.specs.Parts.{Part}

-- the part of a process, and for how many children more memory is taken
pub record Entry : Type 0 where
  pub part : Part
  pub room : ℕ
