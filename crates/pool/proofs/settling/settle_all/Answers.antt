-- Each goal's answer is direct, since the search for one takes long here.
use Rattle.std.proofs.Common.{◌≡◌, ◌∙◌, refl, subst, Ok, Err}
use Rattle.std.specs.Prelude.{Result, MatchResult}
use borrow.Author.Count.{falls}
use Rattle.pool.proofs.Sums.{nothing_yet, one_more, few_so_far, ends_empty, ends_rejected, ends_at_most}
use Rattle.pool.proofs.settling.settle_all.Goals as goal

-- what a clause says of each of both
of_ok : {X E : Type 0} (P : X → Type 0) (Q : E → Type 0) (r : Result X E) (x : X) → r ≡ Ok x → MatchResult r P Q → P x
of_ok P Q r x is h = subst (λ r. MatchResult r P Q) is h

of_err : {X E : Type 0} (P : X → Type 0) (Q : E → Type 0) (r : Result X E) (e : E) → r ≡ Err e → MatchResult r P Q → Q e
of_err P Q r e is h = subst (λ r. MatchResult r P Q) is h

pub loop-init : goal.loop-init
loop-init g c = (refl, nothing_yet c.args.results.now c.args.share.now c.none-sums.result c.none-sums.ensures)

pub with-sums-requires-clause-few : goal.with-sums-requires-clause-few
with-sums-requires-clause-few g c =
    let some = few_so_far _ _ _ _ _ _ c.loop.invariant.1 c.loop-test.true in
    (some.0.0, some.0.1, (of_ok _ _ _ _ c.in-Some-Ok.field-0-is c.in-Some-Ok.ensures.some).6)

pub with-sums-requires-clause-ran : goal.with-sums-requires-clause-ran
with-sums-requires-clause-ran g c = ((few_so_far _ _ _ _ _ _ c.loop.invariant.1 c.loop-test.true).1, (of_ok _ _ _ _ c.in-Some-Ok.field-0-is c.in-Some-Ok.ensures.some).3)

pub with-sums-requires-clause-turns : goal.with-sums-requires-clause-turns
with-sums-requires-clause-turns g c = ((few_so_far _ _ _ _ _ _ c.loop.invariant.1 c.loop-test.true).2, (of_ok _ _ _ _ c.in-Some-Ok.field-0-is c.in-Some-Ok.ensures.some).2)

pub with-sums-requires-clause-enters : goal.with-sums-requires-clause-enters
with-sums-requires-clause-enters g c = ((few_so_far _ _ _ _ _ _ c.loop.invariant.1 c.loop-test.true).3, (of_ok _ _ _ _ c.in-Some-Ok.field-0-is c.in-Some-Ok.ensures.some).4)

pub loop-smaller : goal.loop-smaller
loop-smaller g c = falls 1024 _ c.loop-test.true

pub loop-preserved : goal.loop-preserved
loop-preserved g c = (
  c.settle_one.ensures.stopped ∙ c.loop.invariant.0,
  one_more _ _ _ _ _ _ c.loop.sums c.with-sums.result c.in-Some-Ok.by c.loop.counter c.loop.invariant.1 (of_ok _ _ _ _ c.in-Some-Ok.field-0-is c.in-Some-Ok.ensures.some) c.with-sums.ensures,
)

pub returns-in-Some-Err : goal.returns-in-Some-Err
returns-in-Some-Err g c =
    let told = ends_rejected _ _ _ _ _ _ c.loop.sums c.ended.result c.in-Some-Err.rejected c.loop.counter c.loop.invariant.1 c.loop-test.true (of_err _ _ _ _ c.in-Some-Err.field-0-is c.in-Some-Err.ensures.some) c.ended.ensures in
    record { stopped = c.settle_one.ensures.stopped ∙ c.loop.invariant.0; settled = told.0; ended = told.1; most = told.2 }

pub returns-in-None : goal.returns-in-None
returns-in-None g c =
    let told = ends_empty _ _ _ _ _ _ c.loop.sums c.ended-in-None.result c.loop.counter c.loop.invariant.1 c.loop-test.true c.in-None.ensures.none.0 c.in-None.ensures.none.1 c.ended-in-None.ensures in
    record { stopped = c.settle_one.ensures.stopped ∙ c.loop.invariant.0; settled = told.0; ended = told.1; most = told.2 }

pub returns : goal.returns
returns g c =
    let told = ends_at_most _ _ _ _ c.loop.sums c.ended-2.result c.loop.counter c.loop.invariant.1 c.loop.auto.counter-end c.loop-test.false c.ended-2.ensures in
    record { stopped = c.loop.invariant.0; settled = told.0; ended = told.1; most = told.2 }
