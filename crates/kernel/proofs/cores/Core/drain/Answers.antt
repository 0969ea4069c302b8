-- Each event of the drain goes on with it, or ends it.
use Rattle.std.proofs.Common.{◌<◌, ◌≤◌, ◌∙◌, not, ap, sym, arith}
use Rattle.std.proofs.lemmas.Grind.{common_steps}
use Rattle.std.proofs.lemmas.Result.{IfOk-from_err, err_from_is_err_and}
use Rattle.disk_model.specs.Storage.{is_empty}
use Rattle.kernel_model.specs.Answers.{Kernel, now, committed, changes}
use Rattle.kernel_model.specs.Drains.{completion_or_cut}
use Rattle.kernel.specs.Booting.{boot_of}
use Rattle.kernel.proofs.Draining.{draining-more, drained, drain-refused, drain-failed}
use Rattle.kernel.proofs.cores.Core.drain.Goals as goal

pub returns-then-has_failed-clause-drained : goal.returns-then-has_failed-clause-drained
returns-then-has_failed-clause-drained c =
    drain-failed c.args.self.now
    (ap (λ (k : Kernel). not (is_empty (now k).storage.device.failed)) (sym c.self.view_is)
    ∙ sym (c.has_failed.ensures (boot_of c.self.inside.booted.value) c.self.invariant.stands) ∙ c.if-has_failed.true)

pub loop-self-preserved : goal.loop-self-preserved
loop-self-preserved c =
    let k : Kernel = c.loop-self.self in
    let some : committed (now k) < changes (now k) = omega (arith, c.loop-self-test.true, c.committed.ensures, c.changes.ensures) in
    draining-more c.args.self.now k c.apply.new.self c.next_event-event.result c.in_ok-apply.field-0
    (c.next_event-event.ensures ∙ ap completion_or_cut c.in_flight.ensures) some c.loop-self.invariant c.in_ok-apply.ensures.applies

pub returns-in_err-apply-clause-drained : goal.returns-in_err-apply-clause-drained
returns-in_err-apply-clause-drained c =
    let k : Kernel = c.loop-self.self in
    let some : committed (now k) < changes (now k) = omega (arith, c.loop-self-test.true, c.committed.ensures, c.changes.ensures) in
    let p = err_from_is_err_and c.from_residual.result c.from_residual.ensures.1 in
    rw (p.1, p.2) (drain-refused c.args.self.now k c.apply.new.self c.next_event-event.result c.in_err-apply.field-0.0
    (c.next_event-event.ensures ∙ ap completion_or_cut c.in_flight.ensures) some c.loop-self.invariant c.in_err-apply.ensures.applies)

pub returns-clause-drained : goal.returns-clause-drained
returns-clause-drained c =
    let k : Kernel = c.loop-self.self in
    let all : changes (now k) ≤ committed (now k) = omega (arith, c.loop-self-test.false, c.committed.ensures, c.changes.ensures) in
    drained c.args.self.now k c.loop-self.invariant all

pub returns-clause-shown : goal.returns-clause-shown
returns-clause-shown c =
    let k : Kernel = c.loop-self.self in
    let all : changes (now k) ≤ committed (now k) = omega (arith, c.loop-self-test.false, c.committed.ensures, c.changes.ensures) in
    λ t. c.all_is_shown.ensures.terminals k.boot k.history (drained c.args.self.now k c.loop-self.invariant all).outcome.1 t

pub returns-clause-handed : goal.returns-clause-handed
returns-clause-handed c =
    let k : Kernel = c.loop-self.self in
    let all : changes (now k) ≤ committed (now k) = omega (arith, c.loop-self-test.false, c.committed.ensures, c.changes.ensures) in
    λ p. c.all_is_shown.ensures.traces k.boot k.history (drained c.args.self.now k c.loop-self.invariant all).outcome.1 p

pub loop-self-smaller : goal.loop-self-smaller
loop-self-smaller c = grind (arith, common_steps)

pub returns-in_err-apply-clause-shown : goal.returns-in_err-apply-clause-shown
returns-in_err-apply-clause-shown c = IfOk-from_err c.from_residual.result _ c.from_residual.ensures.0

pub returns-in_err-apply-clause-handed : goal.returns-in_err-apply-clause-handed
returns-in_err-apply-clause-handed c = IfOk-from_err c.from_residual.result _ c.from_residual.ensures.0
