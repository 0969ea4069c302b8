-- The law by its two directions.
use Rattle.formats.proofs.Rows.{means-instr_of, instr_of-means}
use Rattle.formats.proofs.laws.meanings.Goals as goal

pub returns : goal.returns
returns c = λ w i. (means-instr_of w i, instr_of-means w i)
