-- What was counted, with what is left of the run, is what the whole run counts.
use Rattle.std.proofs.Common.{◌≡◌, ℕ, ◌+◌, ◌≤◌, ◌^◌, length}
use Rattle.exec_records.specs.Begun.{begun, times}
use Rattle.exec_records.specs.Counted.{count_at, count_of_all}
use Rattle.exec_records.proofs.step_counts.count_steps.Given as goal

abbrev pub invariant-loop-left : goal.invariant-loop-left
invariant-loop-left l = record {
  each : (a : ℕ) → count_at a l.counts + times a (begun l.left l.current) ≡ count_at a l.initial.counts + times a (begun l.steps l.fn.machine);
  all : count_of_all l.counts + length (begun l.left l.current) ≡ count_of_all l.initial.counts + length (begun l.steps l.fn.machine);
  fits : l.current.count + l.left ≤ 2 ^ 40;
}

abbrev pub decreases-loop-left : goal.decreases-loop-left
decreases-loop-left l = l.left
