-- By the lemma.
use Rattle.board.proofs.Publishing.{publishes}
use Rattle.board.proofs.steps.stores_keep_the_rule.Goals as goal

pub returns : goal.returns
returns c = publishes _ _ c.args.pair.now c.requires.publishes c.requires.rises.0 c.requires.rises.1
