-- Checks that pass.
use Rattle.std.proofs.Common.{◌≡◌, ℕ, suc, zero, ◌<◌, Bool, true, false, cond, List, [], ◌∷◌, ◌++◌, length, get_or, Option, Some, None, refl, arith}
use Rattle.std.specs.List.{list_any, AllByRecursion}
use Rattle.std.proofs.lemmas.Bool.{or_parts}
use Rattle.image_model.specs.declared.fault.ElfFault.{ElfFault}
use Rattle.image_model.specs.Checks.{Check, ◌⇒◌, first_of}

-- no element passes a test
pub none_passes : {A : Type 0} (p : A → Bool) (xs : List A) → list_any p xs ≡ false → AllByRecursion (λ x. p x ≡ false) xs
none_passes p [] e = tt
none_passes p (x ∷ xs) e = let both = or_parts (p x) (list_any p xs) e in (both.0, none_passes p xs both.1)

pub list_any-none : {A : Type 0} (p : A → Bool) (xs : List A) → AllByRecursion (λ x. p x ≡ false) xs → list_any p xs ≡ false
list_any-none p [] h = refl
list_any-none p (x ∷ xs) h = rw h.0 (list_any-none p xs h.1)

pub none_at : {A : Type 0} (p : A → Bool) (xs : List A) (k : ℕ) (d : A) → list_any p xs ≡ false → k < length xs → p (get_or xs k d) ≡ false
none_at p [] k d e small = absurd (omega arith)
none_at p (x ∷ xs) zero d e small = (or_parts (p x) (list_any p xs) e).0
none_at p (x ∷ xs) (suc k) d e small = none_at p xs k d (or_parts (p x) (list_any p xs) e).1 (omega arith)

-- the first check passes, and so do those after it
pub peel : (b : Bool) (w : ElfFault) (rest : List Check) → first_of ((b ⇒ w) ∷ rest) ≡ None → (b ≡ false) × (first_of rest ≡ None)
peel true w rest e = absurd cc
peel false w rest e = (refl, e)

some_step : (b : Bool) (v r s : Option ElfFault) (w : ElfFault) → (r ≡ Some w → s ≡ Some w) → cond b v r ≡ Some w → cond b v s ≡ Some w
some_step true v r s w f e = e
some_step false v r s w f e = f e

pub none_step : (b : Bool) (x : ElfFault) (r s t : Option ElfFault) → (r ≡ None → s ≡ t) → cond b (Some x) r ≡ None → cond b (Some x) s ≡ t
none_step true x r s t f e = absurd cc
none_step false x r s t f e = f e

-- the first fault of checks is that of checks and more
pub first_of-some : (xs ys : List Check) (w : ElfFault) → first_of xs ≡ Some w → first_of (xs ++ ys) ≡ Some w
first_of-some [] ys w e = absurd cc
first_of-some (x ∷ xs) ys w e = some_step x.fails (Some x.fault) (first_of xs) (first_of (xs ++ ys)) w (first_of-some xs ys w) e

-- after checks that pass it is that of the others
pub first_of-none : (xs ys : List Check) → first_of xs ≡ None → first_of (xs ++ ys) ≡ first_of ys
first_of-none [] ys e = refl
first_of-none (x ∷ xs) ys e = none_step x.fails x.fault (first_of xs) (first_of (xs ++ ys)) (first_of ys) (first_of-none xs ys) e

-- six checks that pass
abbrev pub SixPass : Bool → Bool → Bool → Bool → Bool → Bool → Type 0
SixPass a b c d e f = (a ≡ false) × (b ≡ false) × (c ≡ false) × (d ≡ false) × (e ≡ false) × (f ≡ false)

pub six_pass : (a b c d e f : Bool) (u v w x y z : ElfFault) → first_of ((a ⇒ u) ∷ (b ⇒ v) ∷ (c ⇒ w) ∷ (d ⇒ x) ∷ (e ⇒ y) ∷ (f ⇒ z) ∷ []) ≡ None → SixPass a b c d e f
six_pass a b c d e f u v w x y z sound =
    let p = peel a u ((b ⇒ v) ∷ (c ⇒ w) ∷ (d ⇒ x) ∷ (e ⇒ y) ∷ (f ⇒ z) ∷ []) sound in
    let q = peel b v ((c ⇒ w) ∷ (d ⇒ x) ∷ (e ⇒ y) ∷ (f ⇒ z) ∷ []) p.1 in
    let r = peel c w ((d ⇒ x) ∷ (e ⇒ y) ∷ (f ⇒ z) ∷ []) q.1 in
    let s = peel d x ((e ⇒ y) ∷ (f ⇒ z) ∷ []) r.1 in
    let t = peel e y ((f ⇒ z) ∷ []) s.1 in
    (p.0, q.0, r.0, s.0, t.0, (peel f z [] t.1).0)

pub none_of_six : (a b c d e f : Bool) (u v w x y z : ElfFault) → SixPass a b c d e f → first_of ((a ⇒ u) ∷ (b ⇒ v) ∷ (c ⇒ w) ∷ (d ⇒ x) ∷ (e ⇒ y) ∷ (f ⇒ z) ∷ []) ≡ None
none_of_six a b c d e f u v w x y z p = rw (p.0, p.1, p.2, p.3, p.4, p.5) refl
