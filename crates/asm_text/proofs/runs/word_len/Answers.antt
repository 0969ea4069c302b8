use Rattle.std.proofs.Common.{rules}
use Rattle.asm_text.proofs.runs.word_len.Goals as goal

-- Without an answer this would be proved too; with one, an edit that breaks it is refused sooner.
pub returns-then-begins_fence_i-clause-value : goal.returns-then-begins_fence_i-clause-value
returns-then-begins_fence_i-clause-value c = search rules
