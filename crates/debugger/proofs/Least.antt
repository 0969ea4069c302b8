-- The least number of a breakpoint, among the entries of a slab.
use Rattle.std.proofs.Common.{◌≡◌, ℕ, ◌+◌, Bool, cond, List, [], ◌∷◌, Some, None, refl, sym, ap, ◌∙◌}
use Rattle.std.specs.Prelude.{◌==◌, Option, count_by, is_some}
use Rattle.std.proofs.lemmas.Bool.{eq-eqb, ne_eqb}
use Rattle.std.proofs.lemmas.List.{nil_from_length}
use Rattle.slab.specs.Slab.{entries_from}
use Rattle.slab.proofs.SlabLemmas.{length-entries_from}
use Rattle.debugger.specs.Stops.{least_from}

-- the first number of an entry with an address
abbrev pub first_at : ℕ → List (ℕ × ℕ) → Option ℕ
first_at address [] = None
first_at address (entry ∷ entries) = cond (entry.1 == address) (Some entry.0) (first_at address entries)

pub least-first : (address number : ℕ) (slots : List (Option ℕ)) → first_at address (entries_from number slots) ≡ least_from number slots address
least-first address number [] = refl
least-first address number (None ∷ slots) = least-first address (number + 1) slots
least-first address number (Some at ∷ slots) = ap (cond (at == address) (Some number)) (least-first address (number + 1) slots)

-- there is none where none is set
pub least-none : (address : ℕ) (slots : List (Option ℕ)) → count_by is_some slots ≡ 0 → least_from 0 slots address ≡ None
least-none address slots none =
    sym (least-first address 0 slots) ∙ ap (first_at address) (nil_from_length (entries_from 0 slots) (length-entries_from 0 slots ∙ none))

-- an entry with another address
pub first-skip : (address : ℕ) (all rest : List (ℕ × ℕ)) (entry : ℕ × ℕ) (o : Option ℕ) → all ≡ entry ∷ rest → (entry.1 ≡ address → ⊥) → first_at address all ≡ o → first_at address rest ≡ o
first-skip address all rest entry o is other e =
    sym (ap (λ (b : Bool). cond b (Some entry.0) (first_at address rest)) (ne_eqb entry.1 address other)) ∙ sym (ap (first_at address) is) ∙ e

-- an entry with this one
pub first-found : (address : ℕ) (all rest : List (ℕ × ℕ)) (entry : ℕ × ℕ) (o : Option ℕ) → all ≡ entry ∷ rest → entry.1 ≡ address → first_at address all ≡ o → Some entry.0 ≡ o
first-found address all rest entry o is here e =
    sym (ap (λ (b : Bool). cond b (Some entry.0) (first_at address rest)) (eq-eqb entry.1 address here)) ∙ sym (ap (first_at address) is) ∙ e
