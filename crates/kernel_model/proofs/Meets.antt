-- Carriers that are one, and lists of carriers that meet.
use Rattle.std.proofs.Common.{◌≡◌, ◌||◌, Bool, true, false, List, [], ◌∷◌, ◌++◌, refl, sym, ap, subst, ◌∙◌}
use Rattle.std.specs.List.{list_any}
use Rattle.std.proofs.lemmas.Bool.{eqb-true, eq-eqb, false≢true}
use Rattle.std.proofs.lemmas.List.Folds.{list_any-append}
use Rattle.std.proofs.Math.Bool.{or-false}
use Rattle.kernel_model.specs.declared.carrier.Carrier.{Carrier}
use Rattle.kernel_model.specs.declared.carrier.Carrier.TheVariants.{Proc, File, Names, Pipe, Pipes, Tasks, Tape}
use Rattle.kernel_model.specs.contracts.carrier.CarrierPartialEq.TheImpl as carrier
use Rattle.kernel_model.specs.Entries.{meets, is_same, is_among}

-- ---- two carriers are one
-- where `==` of the code says so
pub same-eq : (x y : Carrier) → carrier.ghosts.eq x y ≡ is_same x y
same-eq (Proc a) (Proc b) = refl
same-eq (File a) (File b) = refl
same-eq Names Names = refl
same-eq (Pipe a) (Pipe b) = refl
same-eq Pipes Pipes = refl
same-eq Tasks Tasks = refl
same-eq (Tape a) (Tape b) = refl
same-eq _ _ = refl

pub same_is : (a b : Carrier) → is_same a b ≡ true → a ≡ b
same_is (Proc a) (Proc b) h = ap (λ n. Proc n) (eqb-true a b h)
same_is (File a) (File b) h = ap (λ n. File n) (eqb-true a b h)
same_is Names Names h = refl
same_is (Pipe a) (Pipe b) h = ap (λ n. Pipe n) (eqb-true a b h)
same_is Pipes Pipes h = refl
same_is Tasks Tasks h = refl
same_is (Tape a) (Tape b) h = ap (λ n. Tape n) (eqb-true a b h)
same_is _ _ h = absurd (false≢true h)

pub same_self : (a : Carrier) → is_same a a ≡ true
same_self (Proc a) = eq-eqb a a refl
same_self (File a) = eq-eqb a a refl
same_self Names = refl
same_self (Pipe a) = eq-eqb a a refl
same_self Pipes = refl
same_self Tasks = refl
same_self (Tape a) = eq-eqb a a refl

pub same_sym : (a b : Carrier) → is_same a b ≡ is_same b a
same_sym a b = elim (is_same a b) as (λ v. is_same a b ≡ v → v ≡ is_same b a) [
  | true ↦ λ h. sym (subst (λ (x : Carrier). is_same b x ≡ true) (sym (same_is a b h)) (same_self b))
  | false ↦ λ h. elim (is_same b a) as (λ w. is_same b a ≡ w → false ≡ w) [
    | true ↦ λ g. absurd (false≢true (sym h ∙ subst (λ (x : Carrier). is_same x b ≡ true) (same_is b a g) (same_self b)))
    | false ↦ λ g. refl
  ] refl
] refl

-- ---- lists that meet
or_swap : (a b c d : Bool) → ((a || b) || (c || d)) ≡ ((a || c) || (b || d))
or_swap true b c d = refl
or_swap false true true d = refl
or_swap false true false d = refl
or_swap false false c d = refl

-- a list meets two in one where it meets either
pub meets-append : (ws xs ys : List Carrier) → meets ws (xs ++ ys) ≡ (meets ws xs || meets ws ys)
meets-append [] xs ys = refl
meets-append (w ∷ ws) xs ys =
    ap (λ b. b || meets ws (xs ++ ys)) (list_any-append (is_same w) xs ys)
    ∙ ap (λ b. (list_any (is_same w) xs || list_any (is_same w) ys) || b) (meets-append ws xs ys)
    ∙ or_swap (list_any (is_same w) xs) (list_any (is_same w) ys) (meets ws xs) (meets ws ys)

-- none meets the empty list
pub meets-none : (ws : List Carrier) → meets ws [] ≡ false
meets-none [] = refl
meets-none (w ∷ ws) = meets-none ws

-- a list meets one carrier where that is among it
pub meets-one : (ws : List Carrier) (y : Carrier) → meets ws (y ∷ []) ≡ is_among y ws
meets-one [] y = refl
meets-one (w ∷ ws) y = ap (λ (b : Bool). b || meets ws (y ∷ [])) (or-false (is_same w y) ∙ same_sym w y) ∙ ap (λ (b : Bool). is_same y w || b) (meets-one ws y)
