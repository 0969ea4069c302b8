-- Each call has one segment fewer.
use Rattle.std.proofs.Common.{length}
use Rattle.elf32.proofs.writing.+put_table.Given as goal

abbrev pub decreases-put_table : goal.decreases-put_table
decreases-put_table l = length l.segments.now
