-- The mark of the last run is compared.
use Rattle.std.proofs.Common.{sym, ◌∙◌}
use Rattle.held_output.proofs.Runs.{ends-last}
use Rattle.held_output.proofs.marks.ends_with.Goals as goal

pub returns-in-Some : goal.returns-in-Some
returns-in-Some c = c.eq.ensures ∙ sym (ends-last c.args.runs.now c.in-Some.run'.now c.args.mark (sym c.in-Some.ensures.value))
