use Rattle.std.proofs.Common.{rules}
use Rattle.memory.proofs.copying.Access.is_allowed.Goals as goal

-- Without an answer this would be proved too; with one, an edit that breaks it is refused sooner.
pub returns-in-Write : goal.returns-in-Write
returns-in-Write c = search rules
