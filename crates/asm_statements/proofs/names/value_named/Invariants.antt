use Rattle.std.proofs.Common.{◌≡◌, drop}
use Rattle.asm_statements.specs.Names.{value_named}
use Rattle.asm_statements.proofs.names.value_named.Given as goal

abbrev pub invariant-loop-row : goal.invariant-loop-row
invariant-loop-row g l = value_named (drop l.row-index l.rows) l.word ≡ value_named l.rows l.word
