use Rattle.std.proofs.Common.{rules}
use Rattle.pipes.proofs.pipe.Pipe.held.Goals as goal

-- Without an answer this would be proved too; with one, an edit that breaks it is refused sooner.
pub returns-clause-held : goal.returns-clause-held
returns-clause-held c = search rules
