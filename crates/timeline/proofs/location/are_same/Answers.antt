-- What `==` says of two lists of what is held.
use Rattle.std.proofs.Common.{◌≡◌, ℕ, Some, None, refl, ap}
use Rattle.std.specs.Prelude.{◌==◌, Option}
use Rattle.std.specs.Bool.{Decides}
use Rattle.std.specs.Option.{option_eq}
use Rattle.std.proofs.lemmas.Bool.Decides.{Decides-eqb}
use Rattle.std.proofs.lemmas.Slice.Eq.{slice_eq-Decides}
use Rattle.timeline.proofs.location.are_same.Goals as goal

parts-Decides : (a b : Option ℕ) → Decides (option_eq (λ x y. x == y) a b) (a ≡ b)
parts-Decides None None = (λ e. refl, λ e. refl)
parts-Decides None (Some y) = (λ e. absurd (let no : ⊥ = cc in no), λ e. absurd (let no : ⊥ = cc in no))
parts-Decides (Some x) None = (λ e. absurd (let no : ⊥ = cc in no), λ e. absurd (let no : ⊥ = cc in no))
parts-Decides (Some x) (Some y) = (λ e. ap (λ (n : ℕ). Some n) ((Decides-eqb x y).0 e), λ e. (Decides-eqb x y).1 cc)

pub returns : goal.returns
returns c =
    let decides : Decides c.eq.result (c.args.one.now ≡ c.args.other.now) = slice_eq-Decides parts-Decides c.args.one.now c.args.other.now c.eq.result c.eq.ensures in
    (λ e. decides.0 e, λ e. decides.1 e)
