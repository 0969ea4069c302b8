use Rattle.std.proofs.Common.{rules}
use Rattle.formats.proofs.text.write_address.Goals as goal

-- Without an answer this would be proved too; with one, an edit that breaks it is refused sooner.
pub returns : goal.returns
returns g c = search rules
