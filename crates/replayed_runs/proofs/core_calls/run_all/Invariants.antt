-- The processes before this place have run on.
use Rattle.std.proofs.Common.{◌≡◌}
use Rattle.order_laws.specs.Moves.{first_seen}
use Rattle.replayed_runs.specs.Replays.{seen_of}
use Rattle.replayed_runs.proofs.Replaying.{rested_up_to}
use Rattle.replayed_runs.proofs.core_calls.run_all.Given as goal

abbrev pub invariant-loop-place : goal.invariant-loop-place
invariant-loop-place l = record {
  seen : seen_of l.core ≡ rested_up_to l.n l.place (first_seen l.fn.core.boot);
  boot : l.core.boot ≡ l.fn.core.boot;
}
