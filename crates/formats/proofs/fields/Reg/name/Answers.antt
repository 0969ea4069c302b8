use Rattle.std.proofs.Common.{rules}
use Rattle.formats.proofs.fields.Reg.name.Goals as goal

-- Without an answer this would be proved too; with one, an edit that breaks it is refused sooner.
pub returns-in-10 : goal.returns-in-10
returns-in-10 c = search rules
