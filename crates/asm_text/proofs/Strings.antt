-- The contents of a string, byte by byte.
use Rattle.std.proofs.Common.{◌≡◌, ℕ, ◌+◌, ◌≤◌, false, List, [], ◌∷◌, ◌++◌, Option, Some, None, arith}
use Rattle.std.proofs.lemmas.Bool.Decides.{nat_tests}
use Rattle.asm_text.specs.Scan.{one_more, contents_from}

-- contents after others, for which this many bytes were read
abbrev pub after : List ℕ → ℕ → Option (List ℕ × ℕ) → Option (List ℕ × ℕ)
after prefix taken None = None
after prefix taken (Some found) = Some (prefix ++ found.0, taken + found.1)

-- a byte that stands for itself
pub plain : (b : ℕ) (bs : List ℕ) → (b ≡ 34 → ⊥) → (b ≡ 92 → ⊥) → 32 ≤ b → b ≤ 126 → contents_from false (b ∷ bs) ≡ one_more (b ∷ []) (contents_from false bs)
plain b bs quote backslash low high = grind (arith, nat_tests)
