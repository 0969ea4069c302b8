-- A result makes the core grow, also where it is handed back. Where it is taken back it is an event at least.
use Rattle.kernel_model.specs.Loans.{IsOfLoan}
use Rattle.kernel_step.specs.Loaned.{loan_result}
use Rattle.kernel_step.specs.declared.loan.Rejected.{Rejected}
use Rattle.std.proofs.Common.{ap}
use Rattle.std.proofs.lemmas.Result.{IfErr-at_err}
use Rattle.recorder.specs.Recording.{MayRefuse}
use Rattle.recorder.proofs.Growing.{grows-settles, settles-longer}
use Rattle.recorder.proofs.Lending.{given-settles, result-of}
use Rattle.recorder.proofs.Stopping.{settled-refuses}
use Rattle.recorder.proofs.running.settle.Goals as goal

pub returns-in-Ok-clause-ran : goal.returns-in-Ok-clause-ran
returns-in-Ok-clause-ran c = settles-longer c.args.core.now c.settle.new.self c.run_loan.result c.settle.result _ c.settle.ensures c.in-Ok.is

pub returns-in-Ok-clause-few : goal.returns-in-Ok-clause-few
returns-in-Ok-clause-few c = given-settles c.args.core.now c.settle.new.self c.run_loan.result c.settle.result c.settle.ensures

pub returns-in-Err-clause-few : goal.returns-in-Err-clause-few
returns-in-Err-clause-few c = given-settles c.args.core.now c.settle.new.self c.run_loan.result c.settle.result c.settle.ensures

pub returns-in-Err-clause-refused : goal.returns-in-Err-clause-refused
returns-in-Err-clause-refused c =
    let own : IsOfLoan c.args.core.now (loan_result c.run_loan.result) =
    result-of c.args.core.now c.args.loan c.run_loan.result c.run_loan.ensures.pid c.run_loan.ensures.number c.run_loan.ensures.quantum (ap (λ b. b.value) c.run_loan.ensures.began) c.requires.out in
    IfErr-at_err (λ (r : Rejected). MayRefuse c.settle.new.self r.why) c.in-Err.is
    (settled-refuses c.args.core.now c.settle.new.self c.run_loan.result c.settle.result c.settle.ensures own)

pub returns-in-Ok-clause-grows : goal.returns-in-Ok-clause-grows
returns-in-Ok-clause-grows c = grows-settles c.args.core.now c.settle.new.self c.run_loan.result c.settle.result c.settle.ensures

pub returns-in-Err-clause-grows : goal.returns-in-Err-clause-grows
returns-in-Err-clause-grows c = grows-settles c.args.core.now c.settle.new.self c.run_loan.result c.settle.result c.settle.ensures
