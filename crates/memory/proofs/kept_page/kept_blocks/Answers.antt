-- The words of one block more.
use Rattle.std.proofs.Common.{arith, append_assoc}
use Rattle.std.proofs.lemmas.Grind.{flat_map-append}
use Rattle.std.proofs.lemmas.List.{append-nil}
use Rattle.memory.proofs.kept_page.kept_blocks.Goals as goal

pub loop-i-preserved : goal.loop-i-preserved
loop-i-preserved c = grind (arith, flat_map-append, append_assoc, append-nil, c.in-Some.ensures.steps, c.in_ok-kept_block.ensures, c.in_ok-push.ensures.items)
