-- No more stands on the terminals so far.
use Rattle.std.proofs.Common.{ℕ, ◌<◌, ◌≤◌, length, get_or}
use Rattle.kernel_model.specs.Answers.{now}
use Rattle.kernel_model.specs.Shown.{printed}
use Rattle.kernel_model.specs.Views.{contents}
use Rattle.run_events.proofs.event_record.output_since.Given as goal

abbrev pub invariant-loop-terminal : goal.invariant-loop-terminal
invariant-loop-terminal l = (t : ℕ) → t < l.terminal → length (contents (printed t (now l.core).log)) ≤ get_or l.lengths t 0
