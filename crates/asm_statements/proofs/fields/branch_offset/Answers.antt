use Rattle.std.proofs.Common.{rules}
use Rattle.asm_statements.specs.Expansion.{offset_of}
use Rattle.asm_statements.proofs.fields.branch_offset.Goals as goal

-- Without an answer this would be proved too; with one, an edit that breaks it is refused sooner.
pub returns-then-cast_unsigned-eq0 : goal.returns-then-cast_unsigned-eq0
unfolding offset_of
returns-then-cast_unsigned-eq0 c = search rules
