-- The tokens so far lead from the line's start to where the loop is.
use Rattle.std.proofs.Common.{length}
use Rattle.asm_text.proofs.Reading.{IsRead}
use Rattle.asm_text.proofs.line.line_at.Given as goal

abbrev pub invariant-loop-here : goal.invariant-loop-here
invariant-loop-here l = IsRead l.start l.bytes l.tokens.items (record { at = l.at; bytes = l.rest; after_word = l.after_word })

abbrev pub decreases-loop-here : goal.decreases-loop-here
decreases-loop-here l = length l.rest
