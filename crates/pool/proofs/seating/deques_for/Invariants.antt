-- So many deques at which nothing was done.
use Rattle.std.proofs.Common.{◌≡◌}
use Rattle.std.specs.Prelude.{vec_len}
use Rattle.std.specs.List.{AllByRecursion}
use Rattle.pool.specs.Seating.{IsUnused}
use Rattle.pool.proofs.seating.deques_for.Given as goal

abbrev pub invariant-loop : goal.invariant-loop
invariant-loop g l = (vec_len l.deques ≡ l.counter) × AllByRecursion IsUnused l.deques.items
