-- The copied places are those of the copied marks.
use Rattle.std.proofs.Common.{◌≡◌, ℕ, List, sym, subst, rules}
use Rattle.std.proofs.lemmas.Map.Entries.{entries_from_clone}
use Rattle.kernel_model.specs.declared.carrier.Carrier.{Carrier}
use Rattle.commit_deps.specs.Kept.{Marked}
use Rattle.commit_deps.specs.Places.{SaysPlaces, AreDistinct}
use Rattle.commit_deps.proofs.dependencies.Dependencies.try_clone.Goals as goal

pub invariant_of-result : goal.invariant_of-result
invariant_of-result c =
    let marks : c.in_ok-to_vec.field-0.items ≡ c.self.inside.marks.items = search rules in
    let places : c.in_ok-clone.field-0.entries ≡ c.self.inside.places.entries =
    entries_from_clone _ _ (λ x y same. same) (λ v w same. same) c.self.inside.places.entries c.in_ok-clone.field-0.entries c.in_ok-clone.ensures.cases in
    subst (λ (es : List (Carrier × ℕ)). SaysPlaces es c.in_ok-to_vec.field-0.items × AreDistinct c.in_ok-to_vec.field-0.items) (sym places)
    (subst (λ (ms : List Marked). SaysPlaces c.self.inside.places.entries ms × AreDistinct ms) (sym marks) c.self.invariant)
