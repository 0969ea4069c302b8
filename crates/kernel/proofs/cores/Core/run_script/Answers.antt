-- What was applied, in words of the history.
use Rattle.kernel.proofs.Applying.{stops-scripted}
use Rattle.kernel.proofs.cores.Core.run_script.Goals as goal

pub returns-clause-grown : goal.returns-clause-grown
returns-clause-grown c = (stops-scripted c.args.self.now c.apply_each.new.to c.args.events.now c.apply_each.result c.apply_each.ensures.stops).grown

pub returns-clause-accepted : goal.returns-clause-accepted
returns-clause-accepted c = (stops-scripted c.args.self.now c.apply_each.new.to c.args.events.now c.apply_each.result c.apply_each.ensures.stops).accepted
