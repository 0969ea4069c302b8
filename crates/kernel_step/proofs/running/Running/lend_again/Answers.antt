-- The process at the place is the one that was asked for.
use Rattle.std.proofs.Common.{sym, ◌∙◌}
use Rattle.kernel_step.proofs.running.Running.lend_again.Goals as goal

pub returns-in-Ok-clause-lends : goal.returns-in-Ok-clause-lends
returns-in-Ok-clause-lends c = λ b h. (c.in-Ok.ensures.pid b h ∙ sym c.in_ok-place.ensures.place.number, c.in-Ok.ensures.lends b h)

pub returns-in-Err-clause-lends : goal.returns-in-Err-clause-lends
returns-in-Err-clause-lends c = λ b h. c.in-Err.ensures.same b
