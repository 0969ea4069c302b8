-- A worker's turns, one after the other.
use Rattle.std.proofs.Common.{◌≡◌, ◌⊎◌, ℕ, zero, suc, refl, subst, inl, inr}
use Rattle.std.specs.Prelude.{Option}
use Rattle.bursts.specs.declared.fault.WorkFault.{WorkFault}
use Rattle.pool.specs.declared.crewing.Next.{Next}
use Rattle.pool.specs.declared.crewing.Next.TheVariants as next
use Rattle.pool.specs.Seats.{Seated}
use Rattle.pool.specs.Crews.{TakesTurn, WentOn, WorksUntil}

-- the turns so far
abbrev pub SoFar : {G : Type 0} → (G → ℕ → G → Type 0) → ℕ → Seated × G → Seated × G → Type 0
SoFar holds q a b = (turns : ℕ) × WentOn holds q a b turns

pub no_turn : {G : Type 0} (holds : G → ℕ → G → Type 0) (q : ℕ) (a : Seated × G) → SoFar holds q a a
no_turn holds q a = (zero, refl)

pub went_on : {G : Type 0} (holds : G → ℕ → G → Type 0) (q : ℕ) (a b c : Seated × G) (does : Next) → SoFar holds q a b → TakesTurn holds q b c does
    → ((does ≡ next.Ask) ⊎ (does ≡ next.Rest)) → SoFar holds q a c
went_on holds q a b c does so_far turn (inl is) = (suc so_far.0, (b, so_far.1, inl (subst (λ d. TakesTurn holds q b c d) is turn)))
went_on holds q a b c does so_far turn (inr is) = (suc so_far.0, (b, so_far.1, inr (subst (λ d. TakesTurn holds q b c d) is turn)))

pub ended : {G : Type 0} (holds : G → ℕ → G → Type 0) (q : ℕ) (a b c : Seated × G) (does : Next) (end : Option WorkFault) → SoFar holds q a b → TakesTurn holds q b c does
    → does ≡ next.End end → WorksUntil holds q a c end
ended holds q a b c does end so_far turn is = (so_far.0, b, so_far.1, subst (λ d. TakesTurn holds q b c d) is turn)
