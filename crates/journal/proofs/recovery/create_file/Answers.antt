use Rattle.std.proofs.Common.{rules}
use Rattle.journal.proofs.recovery.create_file.Goals as goal

-- Without answers these would be proved too; with them, an edit that breaks one is refused sooner.
pub returns-then-not-is_unnamed : goal.returns-then-not-is_unnamed
returns-then-not-is_unnamed c = search rules

pub returns : goal.returns
returns c = search rules
