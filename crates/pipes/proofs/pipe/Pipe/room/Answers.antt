use Rattle.std.proofs.Common.{rules}
use Rattle.pipes.proofs.pipe.Pipe.room.Goals as goal

-- Without an answer this would be proved too; with one, an edit that breaks it is refused sooner.
pub returns-clause-room : goal.returns-clause-room
returns-clause-room c = search rules
