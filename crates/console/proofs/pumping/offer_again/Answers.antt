use Rattle.std.proofs.Common.{rules}
use Rattle.console.specs.Sinks.Interrupts.{never, again}
use Rattle.console.proofs.pumping.offer_again.Goals as goal

pub loop-init : goal.loop-init
loop-init g c = never

pub loop-preserved : goal.loop-preserved
loop-preserved g c = again c.offer-answer.result c.loop.invariant c.offer-answer.ensures.answered (search rules)
