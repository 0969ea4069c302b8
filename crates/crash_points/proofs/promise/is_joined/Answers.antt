-- The bytes begin with the first part, and the second one is the rest.
use Rattle.std.proofs.Common.{◌≡◌, ◌++◌, ◌∙◌, ℕ, true, List, length, take, drop, ap, sym}
use Rattle.std.specs.Prelude.{bytes_eq}
use Rattle.std.proofs.lemmas.List.{take-append-drop}
use Rattle.std.proofs.lemmas.Slice.Eq.{bytes_eq-Decides}
use Rattle.crash_points.proofs.promise.is_joined.Goals as goal

joined : (whole first second rest : List ℕ) → bytes_eq (take (length first) whole) first ≡ true → rest ≡ drop (length first) whole → bytes_eq rest second ≡ true
    → whole ≡ first ++ second
joined whole first second rest begins is same =
    sym (take-append-drop (length first) whole)
    ∙ ap (λ (l : List ℕ). l ++ drop (length first) whole) ((bytes_eq-Decides (take (length first) whole) first).0 begins)
    ∙ ap (λ (l : List ℕ). first ++ l) (sym is ∙ (bytes_eq-Decides rest second).0 same)

pub returns-in-Some : goal.returns-in-Some
returns-in-Some c = λ holds.
    let begins = c.in-Some.ensures.cases in
    joined c.args.whole.now c.args.first.now c.args.second.now c.in-Some.rest.now begins.0 begins.1 (sym c.eq.ensures ∙ holds)
