-- Each part of the promise is a lemma or a law of its own.
use Rattle.kernel_laws.proofs.Whole.{run_is_synchronous}
use Rattle.kernel_laws.proofs.headline.Goals as goal

pub returns : goal.returns
returns c = record { synchronous = run_is_synchronous; crash = c.crashes_keep_the_committed.ensures }
