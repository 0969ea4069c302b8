-- The bytes so far may be accessed.
use Rattle.std.proofs.Common.{◌≡◌, ◌+◌, ◌-◌, ◌^◌, ◌≤◌}
use Rattle.memory_model.specs.Access.{range_fault}
use Rattle.memory.specs.Access.{right_of}
use Rattle.memory.proofs.space.Space.first_fault.Given as goal

abbrev pub invariant-loop-done : goal.invariant-loop-done
invariant-loop-done l =
    record {
      so_far : range_fault (right_of l.access) l.self (l.at + l.done) (l.n - l.done) ≡ range_fault (right_of l.access) l.self l.at l.n;
      within : l.at + l.done ≤ 2 ^ 32;
      below : l.done ≤ l.n;
    }

abbrev pub decreases-loop-done : goal.decreases-loop-done
decreases-loop-done l = l.n - l.done
