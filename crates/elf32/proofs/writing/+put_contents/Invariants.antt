-- Each call has one segment fewer.
use Rattle.std.proofs.Common.{length}
use Rattle.elf32.proofs.writing.+put_contents.Given as goal

abbrev pub decreases-put_contents : goal.decreases-put_contents
decreases-put_contents l = length l.segments.now
