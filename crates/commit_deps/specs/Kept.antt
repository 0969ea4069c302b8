-- What is kept of the events so far.
use Rattle.std.specs.Prelude.{ℕ, List}
use Rattle.kernel_model.specs.declared.carrier.Carrier.{Carrier}

-- a carrier that was written, and its mark
abbrev pub Marked : Type 0
Marked = Carrier × ℕ

-- the marks of all carriers that were written, and for how many more there is room
pub record Kept : Type 0 where
  pub marks : List Marked
  pub room : ℕ
