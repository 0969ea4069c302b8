-- The processes before this place were asked. The copy stands where the run does, unless a call was made in it.
use Rattle.std.proofs.Common.{◌≡◌, false}
use Rattle.explored_runs.specs.Answering.{HaveKeys, IsCopyOf, IsRunOf, ways, with_each, working}
use Rattle.replayed_runs.specs.Replays.{seen_of}
use Rattle.explored_runs.proofs.runs.Runs.try_each.Given as goal

abbrev pub invariant-loop-place : goal.invariant-loop-place
invariant-loop-place l = record {
  asked : ways l.reached.items ≡ with_each l.calls (working l.self.instructions (seen_of l.replay.core) l.place);
  keys : IsRunOf l.self l.calls l.replay → HaveKeys l.self l.reached.items;
  copy : l.is_used ≡ false → IsCopyOf l.replay l.copy;
}
