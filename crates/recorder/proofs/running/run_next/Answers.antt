-- A loan, its result and a drain make the core grow, by an event at least.
use Rattle.std.proofs.Common.{◌≡◌, ◌<◌, List, length, ap, arith, rules}
use Rattle.kernel_model.specs.declared.event.Event.{Event}
use Rattle.recorder.proofs.Growing.{grows-longer, grows-then}
use Rattle.recorder.proofs.running.run_next.Goals as goal

pub returns-in_err-loan-clause-grows : goal.returns-in_err-loan-clause-grows
returns-in_err-loan-clause-grows c = λ first before. grows-then first c.args.core.now c.lend.new.core before c.lend.ensures.grows

pub returns-in-None-clause-grows : goal.returns-in-None-clause-grows
returns-in-None-clause-grows c = λ first before. grows-then first c.args.core.now c.lend.new.core before c.lend.ensures.grows

pub returns-in_err-settle-in-Some-clause-grows : goal.returns-in_err-settle-in-Some-clause-grows
returns-in_err-settle-in-Some-clause-grows c = λ first before.
    grows-then first c.lend.new.core c.settle.new.core (grows-then first c.args.core.now c.lend.new.core before c.lend.ensures.grows) c.settle.ensures.grows

pub returns-in_err-commit-in-Some-clause-grows : goal.returns-in_err-commit-in-Some-clause-grows
returns-in_err-commit-in-Some-clause-grows c = λ first before.
    grows-then first c.settle.new.core c.commit.new.core
    (grows-then first c.lend.new.core c.settle.new.core (grows-then first c.args.core.now c.lend.new.core before c.lend.ensures.grows) c.settle.ensures.grows)
    c.commit.ensures.grows

pub returns-in_ok-commit-in-Some-clause-grows : goal.returns-in_ok-commit-in-Some-clause-grows
returns-in_ok-commit-in-Some-clause-grows c = λ first before.
    grows-then first c.settle.new.core c.commit.new.core
    (grows-then first c.lend.new.core c.settle.new.core (grows-then first c.args.core.now c.lend.new.core before c.lend.ensures.grows) c.settle.ensures.grows)
    c.commit.ensures.grows

pub returns-in_ok-commit-in-Some-clause-ran : goal.returns-in_ok-commit-in-Some-clause-ran
returns-in_ok-commit-in-Some-clause-ran c = λ is.
    let lent : length c.lend.new.core.history ≡ length c.args.core.now.history = ap (λ (es : List Event). length es) c.lend.ensures.history in
    let settled : length c.lend.new.core.history < length c.settle.new.core.history = search rules in
    let committed = grows-longer c.settle.new.core c.commit.new.core c.commit.ensures.grows in
    omega (arith, lent, settled, committed)
