-- The list of segments gets shorter.
use Rattle.std.proofs.Common.{length}
use Rattle.machine.proofs.loading.+space_of.Given as goal

abbrev pub decreases-space_of : goal.decreases-space_of
decreases-space_of l = length l.segments.now
