-- Each call has one segment fewer.
use Rattle.std.proofs.Common.{length}
use Rattle.elf32.proofs.segments.+has_overlap.Given as goal

abbrev pub decreases-has_overlap : goal.decreases-has_overlap
decreases-has_overlap l = length l.headers.now
