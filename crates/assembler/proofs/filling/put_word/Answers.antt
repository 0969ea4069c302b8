use Rattle.std.proofs.Common.{rules}
use Rattle.assembler.proofs.filling.put_word.Goals as goal

pub returns-in_ok-extend_from_slice-clause-ok : goal.returns-in_ok-extend_from_slice-clause-ok
returns-in_ok-extend_from_slice-clause-ok c = search rules
