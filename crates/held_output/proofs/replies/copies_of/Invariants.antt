-- The copies so far.
use Rattle.std.proofs.Common.{◌≡◌, take}
use Rattle.held_output.proofs.replies.copies_of.Given as goal

abbrev pub invariant-loop-reply : goal.invariant-loop-reply
invariant-loop-reply l = l.copies.items ≡ take l.reply-index l.replies
