-- Those up to here stand, or have ended.
use Rattle.std.proofs.Common.{◌≤◌, ℕ}
use Rattle.order_laws.specs.Outcomes.{StandsAt}
use Rattle.replayed_runs.specs.Replays.{seen_of}
use Rattle.replayed_runs.proofs.replay.Replay.all_stand.Given as goal

abbrev pub invariant-loop-place : goal.invariant-loop-place
invariant-loop-place l = record {
  stand : (p : ℕ) → p ≤ l.place → StandsAt (seen_of l.self.core) p;
}
