-- Each call has one segment fewer.
use Rattle.std.proofs.Common.{length}
use Rattle.elf32.proofs.segments.+page_total.Given as goal

abbrev pub decreases-page_total : goal.decreases-page_total
decreases-page_total l = length l.headers.now
