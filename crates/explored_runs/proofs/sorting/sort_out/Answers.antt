-- What comes after one run more is put to the others.
use Rattle.std.proofs.Common.{◌∙◌, ◌++◌, ◌∷◌, [], ◌&&◌, ℕ, Bool, List, ap, sym}
use Rattle.std.specs.Prelude.{option_to_list}
use Rattle.std.specs.Global.{Vec}
use Rattle.state_search.specs.declared.moves.Reached.{Reached}
use Rattle.explored_runs.specs.Answering.{calls_in, over_by_next, reached_by_next}
use Rattle.order_outcomes.specs.declared.outcome.Outcome.{Outcome}
use Rattle.explored_runs.specs.declared.visited.VisitedState.{VisitedState}
use Rattle.explored_runs.proofs.Gathered.{calls_more, over_more, reached_more, stand_more, visited_more}
use Rattle.explored_runs.proofs.sorting.sort_out.Goals as goal

pub loop-state-preserved : goal.loop-state-preserved
loop-state-preserved c =
    let inv = c.loop-state.invariant in
    let before = c.loop-state.yielded in
    let a = c.in-Some.field-0 in
    let reached = c.in_ok-add_next.ensures.reached ∙ ap (λ (xs : List (Reached (Vec ℕ))). xs ++ reached_by_next a.next) inv.reached ∙ sym (reached_more before a) in
    let over = c.in_ok-add_next.ensures.over ∙ ap (λ (xs : List Outcome). xs ++ over_by_next a.next) inv.over ∙ sym (over_more before a) in
    let visited = c.in_ok-add_state.ensures ∙ ap (λ (xs : List VisitedState). xs ++ option_to_list a.visited) inv.visited ∙ sym (visited_more before a) in
    let calls = c.in_ok-push.ensures.items ∙ ap (λ (xs : List ℕ). xs ++ c.calls.result ∷ []) inv.calls ∙ ap (λ (n : ℕ). calls_in before ++ n ∷ []) c.calls.ensures ∙ sym (calls_more before a) in
    let whole = ap (λ (b : Bool). b && a.stands) inv.whole ∙ sym (stand_more before a) in
    record { reached = reached; over = over; visited = visited; calls = calls; whole = whole }
