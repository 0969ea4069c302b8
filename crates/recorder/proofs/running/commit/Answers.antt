-- A drain is events, and no loan.
use Rattle.recorder.proofs.Growing.{grows-drained}
use Rattle.recorder.proofs.Lending.{given-drained}
use Rattle.recorder.proofs.Stopping.{drained-refuses}
use Rattle.recorder.proofs.running.commit.Goals as goal

pub returns-clause-refused : goal.returns-clause-refused
returns-clause-refused c = drained-refuses c.args.core.now c.drain.new.self c.drain.result c.drain.ensures.drained

pub returns-clause-few : goal.returns-clause-few
returns-clause-few c = given-drained c.args.core.now c.drain.new.self c.drain.result c.drain.ensures.drained

pub returns-clause-grows : goal.returns-clause-grows
returns-clause-grows c = grows-drained c.args.core.now c.drain.new.self c.drain.result c.drain.ensures.drained
