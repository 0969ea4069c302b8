-- The next process is lent.
use Rattle.std.proofs.Common.{rules, ◌≡◌, ℕ, length, false, true, is_some, Option, Some, None, Err, refl, ap}
use Rattle.kernel_step.specs.Lending.{full_for_loan_of, next_fit}
use Rattle.kernel_model.specs.declared.answer.Refused.TheVariants.{OutOfMemory}
use Rattle.kernel_step.proofs.LendKept.{lends-one, lends-none, lends-wanting}
use Rattle.kernel_step.proofs.LendNext.{fit-at}
use Rattle.kernel_step.specs.Represents.{kernel_in}
use Rattle.kernel_step.proofs.running.Running.lend.Goals as goal

pub lend_at-requires-clause-fit : goal.lend_at-requires-clause-fit
lend_at-requires-clause-fit c =
    let next : next_fit c.args.quantum c.args.self.now.system.served c.args.self.now.last_lent c.args.self.now.tasks.items ≡ Some c.in-Some.place = cc in
    fit-at c.args.quantum c.args.self.now.system.served c.args.self.now.last_lent c.args.self.now.tasks.items c.in-Some.place next

pub returns-in_default-clause-lends : goal.returns-in_default-clause-lends
returns-in_default-clause-lends c = λ b h.
    let room : full_for_loan_of (length c.args.self.now.history.items) c.args.self.now.tasks.items ≡ false = cc in
    let none : next_fit c.args.quantum c.args.self.now.system.served c.args.self.now.last_lent c.args.self.now.tasks.items ≡ None = cc in
    lends-none b c.args.self.now.history.items c.args.self.now.tasks.items c.args.self.now.tasks.items c.args.self.now.system c.args.self.now.last_lent c.args.quantum
    (kernel_in b c.args.self.now) refl h.parts room none refl

pub returns-clause-lends : goal.returns-clause-lends
returns-clause-lends c = λ b h.
    let next : next_fit c.args.quantum c.args.self.now.system.served c.args.self.now.last_lent c.args.self.now.tasks.items ≡ Some c.in-Some.place = cc in
    lends-one b c.args.self.now.history.items c.args.self.now.tasks.items c.args.self.now.system c.args.self.now.last_lent c.args.quantum c.in-Some.place c.in_ok-lend_at.field-0
    (kernel_in b c.args.self.now) (kernel_in b c.lend_at.new.self) refl h.parts next (c.in_ok-lend_at.ensures.pid b h) (c.in_ok-lend_at.ensures.lends b h)

pub returns-in_err-lend_at-clause-lends : goal.returns-in_err-lend_at-clause-lends
returns-in_err-lend_at-clause-lends c = λ b h.
    let room : full_for_loan_of (length c.args.self.now.history.items) c.args.self.now.tasks.items ≡ false = cc in
    let next : next_fit c.args.quantum c.args.self.now.system.served c.args.self.now.last_lent c.args.self.now.tasks.items ≡ Some c.in-Some.place = cc in
    let some : is_some (next_fit c.args.quantum c.args.self.now.system.served c.args.self.now.last_lent c.args.self.now.tasks.items) ≡ true =
    ap (λ (o : Option ℕ). is_some o) next in
    let wanting : c.from_residual.result ≡ Err OutOfMemory = search rules in
    rw wanting (lends-wanting b c.args.self.now.history.items c.args.self.now.tasks.items c.args.self.now.system c.args.self.now.last_lent c.args.quantum
    (kernel_in b c.args.self.now) (kernel_in b c.lend_at.new.self) refl h.parts room some (c.in_err-lend_at.ensures.same b))
