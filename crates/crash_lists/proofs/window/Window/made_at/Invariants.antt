-- The file lives at none of the moments so far.
use Rattle.std.proofs.Common.{◌≡◌, ◌<◌, ℕ, None}
use Rattle.crash_lists.specs.Rules.{living_at}
use Rattle.crash_lists.proofs.window.Window.made_at.Given as goal

abbrev pub invariant-loop-moment : goal.invariant-loop-moment
invariant-loop-moment l = (t : ℕ) → t < l.moment → living_at l.self.moments.items l.number t ≡ None
