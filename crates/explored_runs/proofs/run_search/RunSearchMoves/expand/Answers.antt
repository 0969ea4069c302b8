-- The next states are answered.
use Rattle.std.proofs.Common.{◌∙◌, ◌++◌, ◌&&◌, [], ℕ, List, length, append-nil, ap, refl, subst, sym}
use Rattle.std.specs.Global.{Vec}
use Rattle.std.proofs.lemmas.List.{append_assoc}
use Rattle.state_search.specs.declared.moves.Found.{Found}
use Rattle.state_search.specs.declared.moves.Reached.{Reached}
use Rattle.explored_runs.specs.Answering.{Expands}
use Rattle.explored_runs.proofs.Answered.{answers_both, answers_none}
use Rattle.explored_runs.proofs.Nexts.{empty_of}
use Rattle.explored_runs.specs.declared.runs.Runs.{Runs}
use Rattle.explored_runs.proofs.run_search.RunSearchMoves.expand.Goals as goal

pub loop-rest-init : goal.loop-rest-init
loop-rest-init g c = record { done = []; parted = refl; answered = answers_none c.args.self.now.runs.now c.new-next.result.items c.new-next.ensures.items; space = refl }

pub loop-rest-preserved : goal.loop-rest-preserved
loop-rest-preserved g c =
    let before = c.loop-rest.invariant in
    let r = c.loop-rest.self.runs.now in
    let states = c.parted.result.0.now in
    let sorted = c.in_ok-reached.field-0 in
    let whole = c.loop-rest.is_whole && sorted.is_whole in
    record {
      done = before.done ++ states;
      parted = before.parted ∙ ap (λ (fs : List (Found (Vec ℕ))). before.done ++ fs) (sym c.parted.ensures.all) ∙ sym (append_assoc before.done states c.parted.result.1.now);
      answered = subst (λ (xs : List (Reached (Vec ℕ))). Expands r (before.done ++ states) xs whole) (sym c.in_ok-append.ensures.items)
          (answers_both r before.done states c.loop-rest.next.items sorted.reached.items c.loop-rest.is_whole sorted.is_whole before.answered c.in_ok-reached.ensures.answered);
      space = before.space;
    }

pub returns-clause-expands : goal.returns-clause-expands
returns-clause-expands g c =
    let inv = c.loop-rest.invariant in
    let rest = c.loop-rest.rest.now in
    let none = empty_of rest (length rest) refl (sym c.is_empty.ensures ∙ c.loop-rest-test.false) in
    let all = sym (append-nil inv.done) ∙ ap (λ (fs : List (Found (Vec ℕ))). inv.done ++ fs) (sym none) ∙ sym inv.parted in
    subst (λ (r : Runs). Expands r c.args.level.now c.loop-rest.next.items c.loop-rest.is_whole) inv.space
    (subst (λ (fs : List (Found (Vec ℕ))). Expands c.loop-rest.self.runs.now fs c.loop-rest.next.items c.loop-rest.is_whole) all inv.answered)
