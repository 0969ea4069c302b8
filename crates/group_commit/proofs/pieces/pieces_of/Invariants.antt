-- The pieces so far and those of the rest are all pieces, and `from` is where the rest begins.
use Rattle.std.proofs.Common.{◌≡◌, ◌+◌, ◌≤◌, ◌++◌, length}
use Rattle.disk_model.specs.Storage.{pieces, pieces_from}
use Rattle.group_commit.proofs.pieces.pieces_of.Given as goal

abbrev pub invariant-loop-rest : goal.invariant-loop-rest
invariant-loop-rest l = record {
  text : l.pieces.items ++ pieces_from (length l.rest) 4096 l.from l.rest ≡ pieces l.at l.bytes;
  room : l.from ≤ 2097152 + 4096;
  inside : 1 ≤ length l.rest → l.from + length l.rest ≤ 2097152;
}

abbrev pub decreases-loop-rest : goal.decreases-loop-rest
decreases-loop-rest l = length l.rest
