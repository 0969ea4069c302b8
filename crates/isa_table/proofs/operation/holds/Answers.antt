-- The one arm whose test the code spells otherwise than the definition.
use Rattle.std.proofs.Common.{◌≡◌, ℕ, arith, refl}
use Rattle.std.specs.Prelude.{nat_lt, nat_le, not}
use Rattle.std.proofs.lemmas.Bool.Decides.{nat_tests}
use Rattle.isa_table.proofs.operation.holds.Goals as goal

not-nat_lt : (a b : ℕ) → not (nat_lt a b) ≡ nat_le b a
not-nat_lt a b = grind (arith, nat_tests)

pub returns-in-NotBelow : goal.returns-in-NotBelow
returns-in-NotBelow c = rw (c.in-NotBelow.is, not-nat_lt) refl
