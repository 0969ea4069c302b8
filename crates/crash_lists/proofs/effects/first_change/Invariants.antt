-- No byte so far differs.
use Rattle.crash_lists.specs.Effects.{AreSame}
use Rattle.crash_lists.proofs.effects.first_change.Given as goal

abbrev pub invariant-loop-place : goal.invariant-loop-place
invariant-loop-place l = AreSame l.before l.after l.begin l.place
