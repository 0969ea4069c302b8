-- Whether a change finds its file.
use Rattle.std.specs.Prelude.{ℕ, Bool, true, nat_lt}
use Rattle.disk_model.specs.declared.change.Change.{Change}
use Rattle.disk_model.specs.declared.change.Change.TheVariants.{Create, Write, Empty, Remove, Rename}

-- so many files have the one that the change names; a creation names none
abbrev pub has_its_file : Change → ℕ → Bool
has_its_file (Create name) count = true
has_its_file (Write place offset bytes) count = nat_lt place count
has_its_file (Empty place) count = nat_lt place count
has_its_file (Remove place) count = nat_lt place count
has_its_file (Rename place name) count = nat_lt place count
