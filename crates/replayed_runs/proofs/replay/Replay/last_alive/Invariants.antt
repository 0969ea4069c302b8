-- Those after it make no call.
use Rattle.std.proofs.Common.{◌≡◌, ◌<◌, ◌≤◌, ℕ, false, length}
use Rattle.kernel_model.specs.declared.event.Event.TheVariants.{Enter}
use Rattle.order_laws.specs.Moves.{label_in, writes_some}
use Rattle.replayed_runs.specs.Replays.{seen_of}
use Rattle.replayed_runs.proofs.replay.Replay.last_alive.Given as goal

abbrev pub invariant-loop-last : goal.invariant-loop-last
invariant-loop-last l = record {
  within : l.last ≤ length (seen_of l.self.core).sync.processes;
  idle : (p : ℕ) → l.last < p → writes_some (label_in (seen_of l.self.core) (Enter p)) ≡ false;
}

abbrev pub decreases-loop-last : goal.decreases-loop-last
decreases-loop-last l = l.last
