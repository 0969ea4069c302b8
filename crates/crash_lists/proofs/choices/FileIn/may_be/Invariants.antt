-- The rule allows both by each change so far.
use Rattle.std.proofs.Common.{◌<◌, ℕ}
use Rattle.crash_lists.specs.Rules.{AreBy}
use Rattle.crash_lists.proofs.choices.FileIn.may_be.Given as goal

abbrev pub invariant-loop-change : goal.invariant-loop-change
invariant-loop-change l = (u : ℕ) → u < l.change → AreBy l.self.model l.self.window.now.moments.items u l.self.number l.size l.moment l.cell
