use Rattle.std.proofs.Common.{◌≡◌, true, drop}
use Rattle.asm_statements.specs.Statements.{numbers_read}
use Rattle.asm_statements.proofs.statement.numbers.Given as goal

abbrev pub invariant-loop-token : goal.invariant-loop-token
invariant-loop-token l = numbers_read l.wanted l.end (drop l.token-index l.tokens) l.statement ≡ numbers_read true l.end l.tokens l.statement
