-- The last of the bytes so far that differs.
use Rattle.std.proofs.Common.{◌≤◌, ◌<◌, ◌+◌}
use Rattle.crash_lists.specs.Effects.{AreSame, Differs}
use Rattle.crash_lists.proofs.effects.last_change.Given as goal

abbrev pub invariant-loop-place : goal.invariant-loop-place
invariant-loop-place l = record {
  low : l.first ≤ l.last;
  high : l.last < l.end;
  differs : Differs l.before l.after l.last;
  same : AreSame l.before l.after (l.last + 1) l.place;
}
