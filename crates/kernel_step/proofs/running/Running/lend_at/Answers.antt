-- The task at a place is lent.
use Rattle.std.proofs.lemmas.List.{set-get_or}
use Rattle.std.proofs.Common.{◌≡◌, ℕ, ◌+◌, ◌*◌, ◌^◌, ◌≤◌, length, refl, sym, ap, subst, ◌∙◌, arith, List, slice_get, slice_set, Some}
use Rattle.kernel_step.specs.Lending.{Lent, IsNextLoanOf, IsLent}
use Rattle.kernel_step.specs.Tasks.{machine_of, out_of, count_out}
use Rattle.kernel_step.specs.declared.task.Task.{Task}
use Rattle.kernel_step.proofs.EnterFine.{none-some}
use Rattle.kernel_step.proofs.EnterResults.{on-err-any}
use Rattle.kernel_step.proofs.FewLoans.{few-here}
use Rattle.kernel_step.proofs.LendKept.{IsFit, fits, lent-core, lent-more, lent-number, loan-is}
use Rattle.kernel_step.proofs.LendNext.{fit-there}
use Rattle.kernel_step.specs.Represents.{KeepsRun, kernel_of}
use Rattle.kernel_step.proofs.running.Running.lend_at.Goals as goal
use Rattle.kernel_step.proofs.running.Running.lend_at.Goals.{After-index_mut, In_ok-loan, In_err-loan}

-- ---- the task
same : (c : After-index_mut) → c.index_mut.result.now ≡ c.requires.fit.task
same c = fit-there c.args.quantum c.args.self.now.system.served c.args.self.now.tasks.items c.args.place c.index_mut.result.now c.requires.fit c.index_mut.ensures.value

fit : (c : After-index_mut) → IsFit c.args.quantum c.index_mut.result.now
fit c = subst (λ (t : Task). IsFit c.args.quantum t) (sym (same c)) (fits c.args.quantum c.args.self.now.system.served c.requires.fit.task c.requires.fit.fit)

pub lend_task-requires-clause-here : goal.lend_task-requires-clause-here
lend_task-requires-clause-here c =
    none-some (out_of c.index_mut.result.now) (fit (goal.at.lend_task-requires-clause-here c).After-index_mut).here

pub lend_task-requires-clause-room : goal.lend_task-requires-clause-room
lend_task-requires-clause-room c =
    let few : (machine_of c.index_mut.result.now).count + (c.args.quantum + 1) ≤ 2 ^ 40 = (fit (goal.at.lend_task-requires-clause-room c).After-index_mut).few in
    omega (arith, few)

pub lend_task-requires-clause-few : goal.lend_task-requires-clause-few
lend_task-requires-clause-few c =
    let at = (goal.at.lend_task-requires-clause-few c).After-index_mut in
    let t : Task = c.index_mut.result.now in
    let h = c.requires.kept.1.parts in
    let there : slice_get c.args.self.now.tasks.items c.args.place ≡ Some t = c.requires.fit.there ∙ ap (λ (u : Task). Some u) (sym (same at)) in
    let room : length c.args.self.now.history.items + 2 * count_out c.args.self.now.tasks.items ≤ 2 ^ 40 = h.room in
    let had : t.loans ≤ length c.args.self.now.history.items =
    few-here (length c.args.self.now.history.items) c.args.self.now.tasks.items c.args.place t h.loans there (fit at).here in
    omega (arith, room, had)

-- ---- the kernel
lent : (c : In_ok-loan) → Lent c.args.quantum c.args.self.now.system.served c.args.place c.args.self.now.tasks.items
    (slice_set c.args.self.now.tasks.items c.args.place c.lend_task.new.task) c.in_ok-loan.loan
lent c =
    let is : c.index_mut.result.now ≡ c.requires.fit.task =
    fit-there c.args.quantum c.args.self.now.system.served c.args.self.now.tasks.items c.args.place c.index_mut.result.now c.requires.fit c.index_mut.ensures.value in
    record {
      at = c.requires.fit;
      given = subst (λ (t : Task). IsNextLoanOf c.args.quantum t c.in_ok-loan.loan) is c.in_ok-loan.ensures.loan;
      later = c.lend_task.new.task;
      lent = subst (λ (t : Task). IsLent c.args.quantum t c.lend_task.new.task) is c.in_ok-loan.ensures.task;
      after = refl;
    }

pub returns-clause-stands : goal.returns-clause-stands
returns-clause-stands c = λ b h. record {
  parts =
      lent-core b c.args.self.now.history.items c.args.self.now.tasks.items (slice_set c.args.self.now.tasks.items c.args.place c.lend_task.new.task)
      c.args.self.now.system c.args.quantum c.args.place c.in_ok-loan.loan h.parts c.requires.room (lent (goal.at.returns-clause-stands c).In_ok-loan);
  counted = h.counted;
  out =
      ap (λ (n : ℕ). n + 1) h.out
      ∙ sym (lent-more c.args.self.now.tasks.items (slice_set c.args.self.now.tasks.items c.args.place c.lend_task.new.task)
      c.args.quantum c.args.self.now.system.served c.args.place c.in_ok-loan.loan (lent (goal.at.returns-clause-stands c).In_ok-loan));
}

pub returns-clause-pid : goal.returns-clause-pid
returns-clause-pid c = λ b h.
    lent-number b c.args.self.now.history.items c.args.self.now.tasks.items (slice_set c.args.self.now.tasks.items c.args.place c.lend_task.new.task)
    c.args.self.now.system c.args.quantum c.args.place c.in_ok-loan.loan h.parts (lent (goal.at.returns-clause-pid c).In_ok-loan)

pub returns-clause-lends : goal.returns-clause-lends
returns-clause-lends c = λ b h.
    loan-is b c.args.self.now.history.items c.args.self.now.tasks.items (slice_set c.args.self.now.tasks.items c.args.place c.lend_task.new.task)
    c.args.self.now.system c.args.self.now.last_lent c.args.quantum c.args.place c.in_ok-loan.loan h.parts c.requires.room (lent (goal.at.returns-clause-lends c).In_ok-loan)

-- ---- memory ran out
still : (c : In_err-loan) → slice_set c.args.self.now.tasks.items c.args.place c.lend_task.new.task ≡ c.args.self.now.tasks.items
still c =
    ap (λ (u : Task). slice_set c.args.self.now.tasks.items c.args.place u) (c.in_err-loan.ensures.same ∙ c.index_mut.ensures.value)
    ∙ set-get_or c.args.self.now.tasks.items c.args.place c.index_mut.result.now

pub returns-in_err-loan-clause-stands : goal.returns-in_err-loan-clause-stands
returns-in_err-loan-clause-stands c = λ b h. record {
  parts = subst (λ (ts : List Task). KeepsRun b c.args.self.now.history.items ts c.args.self.now.system) (sym (still (goal.at.returns-in_err-loan-clause-stands c).In_err-loan)) h.parts;
  counted = h.counted;
  out = h.out ∙ ap (λ (ts : List Task). count_out ts) (sym (still (goal.at.returns-in_err-loan-clause-stands c).In_err-loan));
}

pub returns-in_err-loan-clause-same : goal.returns-in_err-loan-clause-same
returns-in_err-loan-clause-same c =
    on-err-any c.from_residual.result (λ b. ap (λ (ts : List Task). kernel_of b c.args.self.now.history.items ts c.args.self.now.last_lent) (still (goal.at.returns-in_err-loan-clause-same c).In_err-loan))
