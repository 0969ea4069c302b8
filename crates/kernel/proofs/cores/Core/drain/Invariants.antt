-- The drain so far, and the room that the history still has.
use Rattle.std.proofs.Common.{◌-◌, ◌^◌, length}
use Rattle.kernel.proofs.Draining.{IsDraining}
use Rattle.kernel.proofs.cores.Core.drain.Given as goal

abbrev pub invariant-loop-self : goal.invariant-loop-self
invariant-loop-self l = IsDraining l.initial.self l.self

abbrev pub decreases-loop-self : goal.decreases-loop-self
decreases-loop-self l = 2 ^ 40 - length l.self.history
