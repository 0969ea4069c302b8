-- A loan is the next one, and adds nothing to the history.
use Rattle.kernel_step.specs.Loaned.{lent_out}
use Rattle.recorder.proofs.Growing.{grows-lent, lent-history}
use Rattle.recorder.proofs.Lending.{given-lent, none-lent, out-lent}
use Rattle.recorder.proofs.Stopping.{lent-refuses}
use Rattle.recorder.proofs.running.lend.Goals as goal

pub returns-clause-out : goal.returns-clause-out
returns-clause-out c = out-lent c.args.core.now c.lend.new.self 65536 c.lend.result c.has_lendings.ensures c.lend.ensures

pub returns-clause-none : goal.returns-clause-none
returns-clause-none c = none-lent c.args.core.now c.lend.new.self c.lend.result c.lend.ensures

pub returns-clause-history : goal.returns-clause-history
returns-clause-history c = lent-history c.args.core.now c.lend.new.self 65536 (lent_out c.lend.result) c.lend.ensures

pub returns-clause-refused : goal.returns-clause-refused
returns-clause-refused c = lent-refuses c.args.core.now c.lend.new.self 65536 c.lend.result c.lend.ensures

pub returns-clause-few : goal.returns-clause-few
returns-clause-few c = given-lent c.args.core.now c.lend.new.self 65536 (lent_out c.lend.result) c.lend.ensures

pub returns-clause-grows : goal.returns-clause-grows
returns-clause-grows c = grows-lent c.args.core.now c.lend.new.self 65536 (lent_out c.lend.result) c.lend.ensures
