-- So many seats, as many fewer deques and lists of others, and as many fewer parts of the share.
use Rattle.std.proofs.Common.{◌≡◌, ◌+◌, ◌++◌, List, length}
use Rattle.std.specs.Prelude.{vec_len, vec_capacity}
use Rattle.std.specs.List.{AllByRecursion}
use Rattle.pool.specs.Deques.{AtDeque}
use Rattle.pool.specs.Seats.{AtEach, IsNew}
use Rattle.pool.specs.Seating.{IsUnused, AreOthers}
use Rattle.pool.proofs.Fresh.{by_worker}
use Rattle.pool.proofs.pools.Pool.seats.Given as goal

abbrev pub invariant-loop : goal.invariant-loop
invariant-loop g l =
    (ds : List AtDeque) × (gone : List AtDeque) × (ds ≡ l.deques.items ++ gone) × (length gone ≡ l.counter) × (length ds ≡ l.self.workers)
    × (vec_len l.deques + l.counter ≡ l.self.workers) × (vec_len l.all + l.counter ≡ l.self.workers)
    × (vec_len l.seats ≡ l.counter) × (vec_capacity l.seats ≡ l.self.workers)
    × (l.share.parts + l.counter ≡ l.initial.share.parts) × (l.share.totals ≡ l.initial.share.totals) × (l.share.lent ≡ l.initial.share.lent)
    × AllByRecursion IsUnused l.deques.items
    × AtEach (λ place others. AreOthers ds place others.items) l.all.items
    × AtEach (IsNew (by_worker ds)) l.seats.items
