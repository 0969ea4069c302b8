-- So many of the deques before the place, from the last to the first, and then so many of those after it.
use Rattle.std.proofs.Common.{length, List, []}
use Rattle.pool.specs.Deques.{AtDeque}
use Rattle.pool.proofs.Fresh.{Down}
use Rattle.pool.proofs.seating.others_of.Given as goal

abbrev pub invariant-loop-step : goal.invariant-loop-step
invariant-loop-step g l = Down l.deques l.place l.step [] l.others.items

abbrev pub invariant-loop-step-2 : goal.invariant-loop-step-2
invariant-loop-step-2 g l = (first : List AtDeque) × Down l.deques l.place l.place [] first × Down l.deques (length l.deques) l.step first l.others.items
