-- The lines so far lead from the source's start to where the loop is.
use Rattle.std.proofs.Common.{length}
use Rattle.asm_text.proofs.Sources.{AreRead}
use Rattle.asm_text.proofs.text.lines.Given as goal

abbrev pub invariant-loop-lines : goal.invariant-loop-lines
invariant-loop-lines l = AreRead l.source l.lines.items l.start l.rest

abbrev pub decreases-loop-lines : goal.decreases-loop-lines
decreases-loop-lines l = length l.rest
