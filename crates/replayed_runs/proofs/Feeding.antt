-- A digest is fed one thing after another.
use Rattle.std.proofs.Common.{arith, ◌≡◌, ◌++◌, [], ◌+◌, ℕ, suc, List, append-nil, sym, subst}
use Rattle.std.proofs.lemmas.List.{append_assoc}
use Rattle.state_search.specs.Digests.{Fed, IsOf}
use Rattle.replayed_runs.specs.StateKeys.{upto_bytes}
use Rattle.state_search.specs.declared.state_digest.StateDigest.{StateDigest}

pub fed_both : (a b c : StateDigest) (xs ys : List ℕ) → Fed a xs b → Fed b ys c → Fed a (xs ++ ys) c
fed_both a b c xs ys one other = λ text is. subst (λ (m : List ℕ). IsOf c m) (append_assoc text xs ys) (other (text ++ xs) (one text is))

pub fed_none : (a : StateDigest) → Fed a [] a
fed_none a = λ text is. subst (λ (m : List ℕ). IsOf a m) (sym (append-nil text)) is

-- those of one more
pub fed_more : (a b c : StateDigest) (f : ℕ → List ℕ) (k : ℕ) → Fed a (upto_bytes f k) b → Fed b (f k) c → Fed a (upto_bytes f (k + 1)) c
fed_more a b c f k before now =
    let next : suc k ≡ k + 1 = omega arith in
    subst (λ (n : ℕ). Fed a (upto_bytes f n) c) next (fed_both a b c (upto_bytes f k) (f k) before now)

-- and those that they are
pub fed_as : (a b : StateDigest) (xs ys : List ℕ) → xs ≡ ys → Fed a xs b → Fed a ys b
fed_as a b xs ys same fed = subst (λ (zs : List ℕ). Fed a zs b) same fed
