-- The law is a lemma.
use Rattle.pipes.proofs.Showing.{grow-by-one}
use Rattle.pipes.proofs.laws.ends_grow_by_one.Goals as goal

pub returns : goal.returns
returns c = grow-by-one
