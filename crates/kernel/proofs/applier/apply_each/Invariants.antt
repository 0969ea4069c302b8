-- The events so far are accepted.
use Rattle.std.proofs.Common.{take}
use Rattle.kernel.specs.Applying.{Accepts}
use Rattle.kernel.proofs.applier.apply_each.Given as goal

abbrev pub invariant-loop-count : goal.invariant-loop-count
invariant-loop-count g l = Accepts g.A.Applier.responds l.fn.to (take l.count l.events) l.to
