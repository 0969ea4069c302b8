-- By the lemma.
use Rattle.board.proofs.Publishing.{gives}
use Rattle.board.proofs.steps.new_passes_keep_the_rule.Goals as goal

pub returns : goal.returns
returns c = gives _ _
