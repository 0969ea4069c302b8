-- The bytes so far, and those that are left.
use Rattle.std.proofs.Common.{◌≡◌, ◌+◌, ◌-◌, ◌≤◌, ◌++◌, length}
use Rattle.memory_model.specs.Access.{bytes_at}
use Rattle.memory.proofs.space.Space.copy_of.Given as goal

abbrev pub invariant-loop-bytes : goal.invariant-loop-bytes
invariant-loop-bytes l =
    record {
      so_far : l.bytes.items ++ bytes_at l.self (l.at + length l.bytes.items) (l.n - length l.bytes.items) ≡ bytes_at l.self l.at l.n;
      below : length l.bytes.items ≤ l.n;
    }

abbrev pub decreases-loop-bytes : goal.decreases-loop-bytes
decreases-loop-bytes l = l.n - length l.bytes.items
