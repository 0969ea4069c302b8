use Rattle.std.proofs.Common.{arith}
use Rattle.std.proofs.lemmas.Grind.{common_steps}
use Rattle.asm_text.proofs.scan.token_at.Goals as goal

pub returns-then-begins_word-clause-value : goal.returns-then-begins_word-clause-value
returns-then-begins_word-clause-value c = grind (arith, common_steps)

pub returns-then-is_ascii_digit-clause-value : goal.returns-then-is_ascii_digit-clause-value
returns-then-is_ascii_digit-clause-value c = grind (arith, common_steps)

pub returns-then-is_ascii_digit-clause-bound : goal.returns-then-is_ascii_digit-clause-bound
returns-then-is_ascii_digit-clause-bound c = grind (arith, common_steps)

pub returns-then-first-eq34-clause-value : goal.returns-then-first-eq34-clause-value
returns-then-first-eq34-clause-value c = grind (arith, common_steps)

pub returns-then-first-eq34-clause-bound : goal.returns-then-first-eq34-clause-bound
returns-then-first-eq34-clause-bound c = grind (arith, common_steps)

pub returns-in-Some-clause-value : goal.returns-in-Some-clause-value
returns-in-Some-clause-value c = grind (arith, common_steps)

pub returns-in-Some-clause-bound : goal.returns-in-Some-clause-bound
returns-in-Some-clause-bound c = grind (arith, common_steps)

pub returns-in-None-clause-value : goal.returns-in-None-clause-value
returns-in-None-clause-value c = grind (arith, common_steps)

pub returns-in-None-clause-bound : goal.returns-in-None-clause-bound
returns-in-None-clause-bound c = grind (arith, common_steps)
