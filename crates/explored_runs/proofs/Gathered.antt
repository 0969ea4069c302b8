-- What is in one more is put to the others.
use Rattle.std.proofs.Common.{◌≡◌, ◌∙◌, ◌++◌, ◌∷◌, [], ◌&&◌, ℕ, Bool, List, append-nil, refl, sym, ap}
use Rattle.std.proofs.Math.Bool.{and-true, and_assoc}
use Rattle.std.specs.Prelude.{option_to_list}
use Rattle.std.specs.Global.{Vec}
use Rattle.std.proofs.lemmas.List.{append_assoc}
use Rattle.state_search.specs.declared.moves.Reached.{Reached}
use Rattle.explored_runs.specs.Answering.{all_stand, calls_by_next, calls_in, over_by_next, over_in, reached_by_next, reached_in, visited_in}
use Rattle.order_outcomes.specs.declared.outcome.Outcome.{Outcome}
use Rattle.explored_runs.specs.declared.visited.VisitedState.{VisitedState}
use Rattle.explored_runs.specs.declared.runs.After.{After}

pub reached_more : (xs : List After) (a : After) → reached_in (xs ++ a ∷ []) ≡ reached_in xs ++ reached_by_next a.next
reached_more [] a = append-nil (reached_by_next a.next)
reached_more (x ∷ xs) a =
    ap (λ (ys : List (Reached (Vec ℕ))). reached_by_next x.next ++ ys) (reached_more xs a) ∙ sym (append_assoc (reached_by_next x.next) (reached_in xs) (reached_by_next a.next))

pub over_more : (xs : List After) (a : After) → over_in (xs ++ a ∷ []) ≡ over_in xs ++ over_by_next a.next
over_more [] a = append-nil (over_by_next a.next)
over_more (x ∷ xs) a =
    ap (λ (ys : List Outcome). over_by_next x.next ++ ys) (over_more xs a) ∙ sym (append_assoc (over_by_next x.next) (over_in xs) (over_by_next a.next))

pub visited_more : (xs : List After) (a : After) → visited_in (xs ++ a ∷ []) ≡ visited_in xs ++ option_to_list a.visited
visited_more [] a = append-nil (option_to_list a.visited)
visited_more (x ∷ xs) a =
    ap (λ (ys : List VisitedState). option_to_list x.visited ++ ys) (visited_more xs a) ∙ sym (append_assoc (option_to_list x.visited) (visited_in xs) (option_to_list a.visited))

pub calls_more : (xs : List After) (a : After) → calls_in (xs ++ a ∷ []) ≡ calls_in xs ++ calls_by_next a.next ∷ []
calls_more [] a = refl
calls_more (x ∷ xs) a = ap (λ (ns : List ℕ). calls_by_next x.next ∷ ns) (calls_more xs a)

pub stand_more : (xs : List After) (a : After) → all_stand (xs ++ a ∷ []) ≡ all_stand xs && a.stands
stand_more [] a = and-true a.stands
stand_more (x ∷ xs) a = ap (λ (b : Bool). x.stands && b) (stand_more xs a) ∙ sym (and_assoc x.stands (all_stand xs) a.stands)
