use Rattle.std.proofs.Common.{Some, sym, ap, ◌∙◌}
use Rattle.std.specs.Fmt.{digits}
use Rattle.asm_statements.proofs.Tables.{register-below}
use Rattle.asm_statements.proofs.names.register_named.Goals as goal

pub new-requires : goal.new-requires
unfolding digits
new-requires c = register-below c.args.word.now _ (sym c.value_named.ensures ∙ c.in_ok-number.was)

pub returns-in_err-number : goal.returns-in_err-number
unfolding digits
returns-in_err-number c = c.from_residual.ensures ∙ (sym c.in_err-number.was ∙ c.value_named.ensures)

pub returns : goal.returns
unfolding digits
returns c = ap Some c.new.ensures ∙ (sym c.in_ok-number.was ∙ c.value_named.ensures)
