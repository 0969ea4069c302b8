-- Nothing was put in yet, and the result is the one given.
use Rattle.std.proofs.Common.{◌≡◌, []}
use Rattle.pool.specs.Settled.{settling_of}
use Rattle.pool.specs.Turns.{AllAccepted}
use Rattle.pool.proofs.seats.Seat.hand_in_at_last.Given as goal

abbrev pub invariant-loop : goal.invariant-loop
invariant-loop g l = AllAccepted l.initial.self l.self [] (settling_of l.sums) × (l.left ≡ l.fn.done)
