-- Runs that pass, counted on from where they were counted before.
use Rattle.std.proofs.Common.{◌≡◌, ℕ, zero, suc, ◌+◌, ◌≤◌, Bool, true, false, if◌then◌else◌, List, [], ◌∷◌, ◌++◌, length, drop, nat_le, refl, arith}
use Rattle.std.proofs.lemmas.Bool.{leb-true, le-leb, false≢true}
use Rattle.held_output.specs.declared.marks.Run.{Run}
use Rattle.held_output.specs.Marks.{runs_passed, with_run, ends_with}

-- where more changes are committed, at least as many pass
pub passed-grows : (c d : ℕ) → c ≤ d → (rs : List Run) → runs_passed c rs ≤ runs_passed d rs
passed-grows c d more [] = omega arith
passed-grows c d more (r ∷ rs) = by (nat_le r.mark c) (nat_le r.mark d) (λ passes. let below : r.mark ≤ c = leb-true r.mark c passes in le-leb r.mark d (omega (arith, below, more))) (passed-grows c d more rs)
  where
    by : (a b : Bool) → (a ≡ true → b ≡ true) → runs_passed c rs ≤ runs_passed d rs → (if a then 1 + runs_passed c rs else 0) ≤ (if b then 1 + runs_passed d rs else 0)
    by true true f rest = omega arith
    by true false f rest = absurd (false≢true (f refl))
    by false b f rest = omega arith

-- further runs leave it so
passed-append : (c : ℕ) (rs more : List Run) → runs_passed c rs ≤ runs_passed c (rs ++ more)
passed-append c [] more = omega arith
passed-append c (r ∷ rs) more = by (nat_le r.mark c) (passed-append c rs more)
  where
    by : (a : Bool) → runs_passed c rs ≤ runs_passed c (rs ++ more) → (if a then 1 + runs_passed c rs else 0) ≤ (if a then 1 + runs_passed c (rs ++ more) else 0)
    by true rest = omega arith
    by false rest = omega arith

pub passed-with : (c start mark : ℕ) (rs : List Run) → runs_passed c rs ≤ runs_passed c (with_run start mark rs)
passed-with c start mark rs = by (ends_with mark rs)
  where
    by : (b : Bool) → runs_passed c rs ≤ runs_passed c (if b then rs else rs ++ record { start = start; mark = mark } ∷ [])
    by true = omega arith
    by false = passed-append c rs (record { start = start; mark = mark } ∷ [])

-- where the first k pass, of those after them the rest pass
pub passed-drop : (c k : ℕ) (rs : List Run) → k ≤ runs_passed c rs → k + runs_passed c (drop k rs) ≡ runs_passed c rs
passed-drop c zero rs h = omega arith
passed-drop c (suc k) [] h = absurd (omega (arith, h))
passed-drop c (suc k) (r ∷ rs) h = by (nat_le r.mark c) h (passed-drop c k rs)
  where
    by : (a : Bool) → suc k ≤ (if a then 1 + runs_passed c rs else 0) → (k ≤ runs_passed c rs → k + runs_passed c (drop k rs) ≡ runs_passed c rs)
        → suc k + runs_passed c (drop k rs) ≡ (if a then 1 + runs_passed c rs else 0)
    by true g rest = let more : k + runs_passed c (drop k rs) ≡ runs_passed c rs = rest (omega (arith, g)) in omega (arith, more)
    by false g rest = absurd (omega (arith, g))

-- those that are known to pass do
pub known-pass : (counted before committed known : ℕ) (rs : List Run) → counted ≤ runs_passed before rs
    → known ≡ (if nat_le before committed then counted else 0) → known ≤ runs_passed committed rs
known-pass counted before committed known rs h is = elim (nat_le before committed) as (λ (b : Bool). nat_le before committed ≡ b
    → known ≡ (if b then counted else 0) → known ≤ runs_passed committed rs) [
      | true ↦ λ e same. (let more : before ≤ committed = leb-true before committed e in omega (arith, h, same, passed-grows before committed more rs))
      | false ↦ λ e same. omega (arith, same)
    ] refl is

-- no more pass than there are
pub passed-within : (c : ℕ) (rs : List Run) → runs_passed c rs ≤ length rs
passed-within c [] = omega arith
passed-within c (r ∷ rs) =
    let rest : runs_passed c rs ≤ length rs = passed-within c rs in
    elim (nat_le r.mark c) as (λ b. (if b then 1 + runs_passed c rs else 0) ≤ suc (length rs)) [
      | true ↦ omega arith
      | false ↦ omega arith
    ]
