-- The law is a lemma.
use Rattle.pipes.proofs.Showing.{shows-next}
use Rattle.pipes.proofs.laws.steps_are_shown.Goals as goal

pub returns-clause-next : goal.returns-clause-next
returns-clause-next c = shows-next
