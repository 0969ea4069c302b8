use Rattle.std.proofs.Common.{rules}
use Rattle.formats.proofs.constructors.immediate.Goals as goal

-- Without an answer this would be proved too; with one, an edit that breaks it is refused sooner.
pub returns-then-imm-ltminus2048 : goal.returns-then-imm-ltminus2048
returns-then-imm-ltminus2048 c = search rules
