-- What is left to write may be written.
use Rattle.std.proofs.Common.{◌≡◌, ◌+◌, ◌-◌, ◌≤◌, drop, length, None}
use Rattle.memory_model.specs.Access.{range_fault, put_bytes, to_write}
use Rattle.memory.proofs.space.Space.copy_out.Given as goal

abbrev pub invariant-loop-done : goal.invariant-loop-done
invariant-loop-done l =
    record {
      rest : put_bytes l.self (l.at + l.done) (drop l.done l.bytes) ≡ put_bytes l.initial.self l.at l.bytes;
      writable : range_fault to_write l.self (l.at + l.done) (length l.bytes - l.done) ≡ None;
      below : l.done ≤ length l.bytes;
    }

abbrev pub decreases-loop-done : goal.decreases-loop-done
decreases-loop-done l = length l.bytes - l.done
