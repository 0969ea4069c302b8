-- One stretch more may be accessed, or is the first that may not.
use Rattle.std.proofs.Common.{◌≡◌, ℕ, ◌+◌, ◌-◌, ◌<◌, sym, ap, ◌∙◌, arith}
use Rattle.std.specs.FinMap.{get}
use Rattle.memory_model.specs.Access.{range_fault}
use Rattle.memory.specs.Access.{right_of}
use Rattle.memory.proofs.Stretches.{fault-step, range_fault-missing, range_fault-refused}
use Rattle.memory.proofs.space.Space.first_fault.Goals as goal

pub returns-in_default-clause-fault : goal.returns-in_default-clause-fault
returns-in_default-clause-fault c =
    let m = c.args.self.now in
    let done : ℕ = c.loop-done.done in
    let place : c.args.at + done ≡ c.from.result + done = ap (λ a. a + done) (sym c.from.ensures) in
    let some : 0 < c.args.n - done = omega arith in
    sym (range_fault-missing (right_of c.args.access) m (c.args.at + done) (c.args.n - done) (ap (get m) place ∙ c.in_default.ensures.missing) some) ∙ c.loop-done.invariant.so_far

pub returns-then-not-is_allowed-clause-fault : goal.returns-then-not-is_allowed-clause-fault
returns-then-not-is_allowed-clause-fault c =
    let m = c.args.self.now in
    let right = right_of c.args.access in
    let done : ℕ = c.loop-done.done in
    let place : c.from.result + done ≡ c.args.at + done = ap (λ a. a + done) c.from.ensures in
    let some : 0 < c.args.n - done = omega arith in
    sym (range_fault-refused right m (c.from.result + done) c.in-Some.bytes.now c.in-Some.rights (c.args.n - done) c.in-Some.ensures.bytes c.in-Some.ensures.some (sym c.is_allowed.ensures ∙ c.if-not-is_allowed.true) some)
    ∙ ap (λ a. range_fault right m a (c.args.n - done)) place ∙ c.loop-done.invariant.so_far

pub loop-done-preserved : goal.loop-done-preserved
loop-done-preserved c =
    let m = c.args.self.now in
    let right = right_of c.args.access in
    let done : ℕ = c.loop-done.done in
    let place : c.from.result + done ≡ c.args.at + done = ap (λ a. a + done) c.from.ensures in
    record {
      so_far = fault-step m c.args.at done c.args.n (c.from.result + done) c.in-Some.bytes.now c.in-Some.rights place c.in-Some.ensures.bytes c.in-Some.ensures.most right (sym c.is_allowed.ensures ∙ c.if-not-is_allowed.false) ∙ c.loop-done.invariant.so_far;
      within = omega (arith, c.in-Some.ensures.within, c.from.ensures);
      below = omega (arith, c.in-Some.ensures.most, c.loop-done-test.true);
    }
