-- The others for the worker of each of so many deques.
use Rattle.std.proofs.Common.{◌≡◌}
use Rattle.std.specs.Prelude.{vec_len}
use Rattle.pool.specs.Seats.{AtEach}
use Rattle.pool.specs.Seating.{AreOthers}
use Rattle.pool.proofs.seating.all_others.Given as goal

abbrev pub invariant-loop-place : goal.invariant-loop-place
invariant-loop-place g l = (vec_len l.all ≡ l.place) × AtEach (λ place others. AreOthers l.deques place others.items) l.all.items
