-- What is found tells something of the process, and how it stands, that it waits. Where nothing is found there was nothing before.
use Rattle.std.proofs.Common.{◌≡◌, ◌<◌, IfSome, MatchOption, Option, length, ap, sym, subst, ◌∙◌, arith}
use Rattle.std.proofs.lemmas.Result.{IfOk-weaker}
use Rattle.kernel_model.specs.Answers.{Kernel, now}
use Rattle.kernel_model.specs.Drains.{IsAllCommitted}
use Rattle.recorder.specs.Recording.{Finds, Grows, HasNone, Tells, loans_given}
use Rattle.recorder.specs.declared.recorded.Recorded.{Recorded}
use Rattle.recorder.specs.declared.recorded.Recorded.TheVariants.{Waits}
use Rattle.recorder.proofs.Growing.{grows-then}
use Rattle.recorder.proofs.recorder.Recorder.run_on.Goals as goal

pub returns-in-Some-clause-going : goal.returns-in-Some-clause-going
returns-in-Some-clause-going c = λ going.
    absurd (subst (λ (r : Recorded). Tells r) going (subst (λ (o : Option Recorded). IfSome o (λ (r : Recorded). Tells r)) c.in-Some.is c.in_ok-recorded.ensures.tells))

pub returns-then-is_over-clause-going : goal.returns-then-is_over-clause-going
returns-then-is_over-clause-going c = IfOk-weaker c.rest.result _ _ (λ r waits going. absurd (let no : ⊥ = cc in no)) c.rest.ensures.waits

pub returns-then-is_over-clause-tells : goal.returns-then-is_over-clause-tells
returns-then-is_over-clause-tells c =
    let none : HasNone c.found.new.self × (c.found.new.self.taken ≡ c.loop.self.taken) =
    subst (λ (o : Option Recorded). MatchOption o (HasNone c.found.new.self × (c.found.new.self.taken ≡ c.loop.self.taken)) (λ r. Finds c.loop.self.taken c.found.new.self r)) c.in_default.is c.in_ok-recorded.ensures.finds in
    let grows : Grows c.args.self.now.kernel c.found.new.self.kernel =
    subst (λ (k : Kernel). Grows c.args.self.now.kernel k) (sym c.in_ok-recorded.ensures.kernel)
    (grows-then c.args.self.now.kernel c.commit.new.self.kernel c.loop.self.kernel c.in_ok-commit.ensures.grows c.loop.invariant.grows) in
    let had : HasNone c.args.self.now =
    c.nothing_is_lost.ensures c.args.self.now c.found.new.self grows
    (c.in_ok-recorded.ensures.process ∙ c.loop.invariant.process ∙ c.in_ok-commit.ensures.process)
    (none.1 ∙ c.loop.invariant.taken ∙ c.in_ok-commit.ensures.taken) none.0 in
    IfOk-weaker c.rest.result (λ (r : Recorded). r ≡ Waits) (λ (r : Recorded). 0 < c.args.loans → (HasNone c.args.self.now → ⊥) → Tells r)
    (λ r waits some nothing. absurd (nothing had)) c.rest.ensures.waits

pub loop-preserved : goal.loop-preserved
loop-preserved c =
    let none : HasNone c.found.new.self × (c.found.new.self.taken ≡ c.loop.self.taken) =
    subst (λ (o : Option Recorded). MatchOption o (HasNone c.found.new.self × (c.found.new.self.taken ≡ c.loop.self.taken)) (λ r. Finds c.loop.self.taken c.found.new.self r)) c.in_default.is c.in_ok-recorded.ensures.finds in
    let grows : Grows c.commit.new.self.kernel c.found.new.self.kernel =
    subst (λ (k : Kernel). Grows c.commit.new.self.kernel k) (sym c.in_ok-recorded.ensures.kernel) c.loop.invariant.grows in
    let had : HasNone c.commit.new.self =
    c.nothing_is_lost.ensures c.commit.new.self c.found.new.self grows
    (c.in_ok-recorded.ensures.process ∙ c.loop.invariant.process) (none.1 ∙ c.loop.invariant.taken) none.0 in
    let history : length c.found.new.self.kernel.history ≡ length c.loop.self.kernel.history = ap (λ (k : Kernel). length k.history) c.in_ok-recorded.ensures.kernel in
    let given : loans_given c.found.new.self.kernel ≡ loans_given c.loop.self.kernel = ap (λ (k : Kernel). loans_given k) c.in_ok-recorded.ensures.kernel in
    let committed : IsAllCommitted (now c.found.new.self.kernel) =
    subst (λ (k : Kernel). IsAllCommitted (now k)) (sym c.in_ok-recorded.ensures.kernel) c.loop.invariant.committed in
    let before = c.loop.invariant.ran in
    let fewer = c.loop.invariant.few in
    let longer = c.in_ok-run_next.ensures.ran c.if-not-branch.false in
    let more = c.in_ok-run_next.ensures.few in
    record {
      ran = omega (arith, before, longer, history);
      few = omega (arith, fewer, more, given);
      none = λ nothing. absurd (nothing had);
      committed = c.in_ok-run_next.ensures.committed committed;
      grows = c.in_ok-run_next.ensures.grows c.commit.new.self.kernel grows;
      process = c.in_ok-run_next.ensures.process ∙ c.in_ok-recorded.ensures.process ∙ c.loop.invariant.process;
      taken = c.in_ok-run_next.ensures.taken ∙ none.1 ∙ c.loop.invariant.taken;
    }
