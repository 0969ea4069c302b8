-- The writes so far and those of the rest are all writes, and the offset is where the rest begins.
use Rattle.std.proofs.Common.{◌≡◌, ◌+◌, ◌≤◌, ◌++◌, length}
use Rattle.disk_model.specs.Rebuild.{writes_from}
use Rattle.journal.proofs.rebuilding.push_writes.Given as goal

abbrev pub invariant-loop-rest : goal.invariant-loop-rest
invariant-loop-rest l = record {
  text : l.changes.items ++ writes_from (length l.rest) 1024 l.file l.offset l.rest ≡ l.fn.changes.items ++ writes_from (length l.bytes) 1024 l.file 0 l.bytes;
  room : l.offset ≤ 16384 + 1024;
  inside : 1 ≤ length l.rest → l.offset + length l.rest ≤ 16384;
}

abbrev pub decreases-loop-rest : goal.decreases-loop-rest
decreases-loop-rest l = length l.rest
