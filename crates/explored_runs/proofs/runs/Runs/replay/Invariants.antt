-- The calls so far and those that are left come to what all come to.
use Rattle.std.proofs.Common.{◌≡◌, drop}
use Rattle.order_laws.specs.Moves.{calls}
use Rattle.order_laws.specs.Orders.{reached}
use Rattle.explored_runs.specs.Answering.{boot_in}
use Rattle.replayed_runs.specs.Replays.{seen_after_calls, seen_of}
use Rattle.explored_runs.proofs.runs.Runs.replay.Given as goal

abbrev pub invariant-loop-pid : goal.invariant-loop-pid
invariant-loop-pid l = record {
  seen : reached (calls l.self.instructions) (seen_of l.replay.core) (drop l.pid-index l.calls)
      ≡ seen_after_calls l.self.instructions (boot_in l.self) l.calls;
  limit : l.replay.limit ≡ l.self.instructions;
}
