-- A loop that changes each element of a list.
use Rattle.std.proofs.Common.{◌≡◌, ℕ, ◌+◌, ◌<◌, ◌≤◌, inl, inr, List, length, slice_get, slice_set, Some, sym, subst, arith}
use Rattle.std.proofs.lemmas.Option.{slice_get_within}
use Rattle.kernel_step.proofs.Lists.{get-set}

-- the elements before i are changed so, and the others stand as they were
pub record Moved {A : Type 0} (R : A → A → Type 0) (old now : List A) (i : ℕ) : Type 0 where
  pub done : (t : ℕ) (y : A) → t < i → slice_get now t ≡ Some y → (x : A) × (slice_get old t ≡ Some x) × R x y
  pub rest : (t : ℕ) (y : A) → i ≤ t → slice_get now t ≡ Some y → slice_get old t ≡ Some y

pub moved-none : {A : Type 0} (R : A → A → Type 0) (old : List A) → Moved R old old 0
moved-none R old = record { done = λ t y below at. absurd (omega arith); rest = λ t y above at. at }

pub moved-one : {A : Type 0} (R : A → A → Type 0) (old now : List A) (i : ℕ) (x y : A) → slice_get now i ≡ Some x → R x y
    → Moved R old now i → Moved R old (slice_set now i y) (i + 1)
moved-one {A} R old now i x y here r m = record {
  done = λ t z below at. elim (get-set now i t y z at) [
    | inl h ↦ (x, subst (λ (k : ℕ). slice_get old k ≡ Some x) (sym h.0) (m.rest i x (omega arith) here), subst (λ (v : A). R x v) (sym h.1) r)
    | inr h ↦ (let less : t < i = omega (arith, h.0) in m.done t z less h.1)
  ];
  rest = λ t z above at. elim (get-set now i t y z at) [
    | inl h ↦ absurd (omega (arith, h.0))
    | inr h ↦ m.rest t z (omega arith) h.1
  ];
}

pub moved-all : {A : Type 0} (R : A → A → Type 0) (old now : List A) (i : ℕ) → length now ≤ i → Moved R old now i
    → (t : ℕ) (y : A) → slice_get now t ≡ Some y → (x : A) × (slice_get old t ≡ Some x) × R x y
moved-all R old now i all m t y at = let within : t < length now = slice_get_within now t y at in m.done t y (omega arith) at
