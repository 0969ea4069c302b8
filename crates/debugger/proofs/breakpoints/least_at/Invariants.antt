-- The first of the entries that are left is the first of all.
use Rattle.std.proofs.Common.{◌≡◌}
use Rattle.debugger.specs.Stops.{least_from}
use Rattle.debugger.proofs.Least.{first_at}
use Rattle.debugger.proofs.breakpoints.least_at.Given as goal

abbrev pub invariant-loop-number : goal.invariant-loop-number
invariant-loop-number l =
    (goal.iterator-loop-number).can_next l.number-iterator ×
    (goal.iterator-loop-number).is_finite l.number-iterator ×
    (first_at l.address l.number-iterator ≡ least_from 0 l.breaks.slots l.address)
