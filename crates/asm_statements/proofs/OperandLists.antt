-- Where an operand is missing.
use Rattle.std.proofs.Common.{ℕ, ◌≡◌, ◌<◌, List, [], ◌∷◌, length, drop, Err, refl, arith, length-drop}
use Rattle.asm_text.specs.declared.token.Token.{Token}
use Rattle.asm_statements.specs.{Statements.operands_read, declared.operands.Slot.Slot, declared.operands.Operands.Operands}

missing : (source : List ℕ) (end : ℕ) (slots : List Slot) (o : Operands) → 0 < length slots → operands_read source end slots [] o ≡ Err end
missing source end [] o more = absurd (omega arith)
missing source end (s ∷ slots) o more = refl

-- with a slot and no token left, an operand is missing
pub operand-missing : (source : List ℕ) (end : ℕ) (slots : List Slot) (i : ℕ) (rest : List Token) (o : Operands) → i < length slots → length rest < 1 → operands_read source end (drop i slots) rest o ≡ Err end
operand-missing source end slots i [] o more none = missing source end (drop i slots) o (omega (arith, length-drop i slots))
operand-missing source end slots i (t ∷ ts) o more none = absurd (omega arith)
