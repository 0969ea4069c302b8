use Rattle.std.proofs.Common.{rules}
use Rattle.kernel.proofs.boot.BootFaultFromDiskFault.from.Goals as goal

-- Without an answer this would be proved too; with one, an edit that breaks it is refused sooner.
pub returns-in_default : goal.returns-in_default
returns-in_default c = search rules
