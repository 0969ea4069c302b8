-- A word that is written means its instruction, and it alone.
use Rattle.std.proofs.Common.{arith}
use Rattle.formats.proofs.Rows.{means-instr_of}
use Rattle.formats.proofs.Spelling.{means_once}
use Rattle.formats.proofs.encoding.encode.Goals as goal

pub returns-clause-table : goal.returns-clause-table
returns-clause-table c = means-instr_of _ _ c.spelling.ensures.means

pub returns-clause-only : goal.returns-clause-only
returns-clause-only c = λ w p m not_fence not_fence_i. means_once _ _ _ p (omega arith) not_fence not_fence_i m c.spelling.ensures.means
