-- By the lemma.
use Rattle.board.proofs.Publishing.{loads}
use Rattle.board.proofs.steps.loads_keep_the_rule.Goals as goal

pub returns : goal.returns
returns c = loads _ _
