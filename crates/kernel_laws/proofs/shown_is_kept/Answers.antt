-- What is seen rests on committed changes, and these are in the prefix.
use Rattle.kernel_model.specs.Answers.{committed}
use Rattle.kernel_model.specs.World.{World, first_world, after}
use Rattle.kernel_laws.proofs.Keeping.{prefix-kept}
use Rattle.kernel_laws.proofs.shown_is_kept.Goals as goal

pub returns : goal.returns
returns c b es held programs tapes left is =
    let w : World = after (first_world b) es in
    let prefix = c.crashes_keep_the_committed.ensures b es held programs tapes left is in
    let seen = c.headline.ensures.synchronous b es in (
      prefix,
      (λ t. prefix-kept (committed w) prefix.count _ _ (seen.terminals t) prefix.every_committed),
      (λ p. prefix-kept (committed w) prefix.count _ _ (seen.traces p) prefix.every_committed),
    )
