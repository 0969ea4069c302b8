use Rattle.std.proofs.Common.{rules}
use Rattle.assembler.proofs.layout.declare.Goals as goal

pub returns-clause-ok : goal.returns-clause-ok
returns-clause-ok c = search rules
