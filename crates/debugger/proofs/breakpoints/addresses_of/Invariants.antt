-- An address that is none of those so far stands in what is left, if anywhere.
use Rattle.std.proofs.Common.{◌≡◌, ℕ, false}
use Rattle.machine_model.specs.Stopping.{is_among}
use Rattle.debugger.specs.Stops.{least_from}
use Rattle.debugger.proofs.Least.{first_at}
use Rattle.debugger.proofs.breakpoints.addresses_of.Given as goal

abbrev pub invariant-loop-at : goal.invariant-loop-at
invariant-loop-at l =
    (goal.iterator-loop-at).can_next l.at-iterator ×
    (goal.iterator-loop-at).is_finite l.at-iterator ×
    ((a : ℕ) → is_among l.stops.items a ≡ false → first_at a l.at-iterator ≡ least_from 0 l.breaks.slots a)
