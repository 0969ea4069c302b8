-- What contracts see of a worker's seat.
use Rattle.std.specs.Prelude.{◌≡◌, ℕ, List, [], ◌∷◌, ◌++◌, length, map, slice_get, Option, Some, None}
use Rattle.bursts.specs.Holdings.{Holding, new_part}
use Rattle.bursts.specs.declared.loan_id.LoanId.{LoanId}
use Rattle.pool.specs.declared.told.Told.{Told}
use Rattle.pool.specs.Deques.{DequeId, AtDeque, new_at}
use Rattle.pool.specs.Queues.{AtQueue, new_at_queue}

-- its own deque and those of the others, the loan that it has to spare, the queue of results, its share, and each answer of the bench
-- by which it had no loan, or to whether the work is over
pub record Seated : Type 0 where
  pub own : AtDeque
  pub others : List AtDeque
  pub spare : Option LoanId
  pub results : AtQueue
  pub share : Holding
  pub told : List Told

-- the same, but for the queue
abbrev pub with_results : Seated → AtQueue → Seated
with_results s v = record s { results = v }

-- the same, but for that and its share
abbrev pub with_settled : Seated → AtQueue → Holding → Seated
with_settled s v h = record s { results = v; share = h }

-- the same, once the bench has answered so
abbrev pub told_so : Seated → Told → Seated
told_so s answer = record s { told = s.told ++ answer ∷ [] }

-- A seat at which nothing was done yet, of the worker at this place among workers with these deques. Its own deque is the one at
-- its place, and the others are those after it and then those before it. It has one part of a share.
pub record IsNew (deques : List DequeId) (place : ℕ) (s : Seated) : Type 0 where
  pub before : List DequeId
  pub after : List DequeId
  pub place_is : length before ≡ place
  pub deques_are : deques ≡ before ++ s.own.deque ∷ after
  pub own : s.own ≡ new_at s.own.deque
  pub others : s.others ≡ map new_at (after ++ before)
  pub spare : s.spare ≡ None
  pub results : s.results ≡ new_at_queue
  pub share : s.share ≡ new_part
  pub told : s.told ≡ []

-- each of these things is so at its place
abbrev pub AtEach : {X : Type 0} → (ℕ → X → Type 0) → List X → Type 0
AtEach {X} P xs = (place : ℕ) (x : X) → slice_get xs place ≡ Some x → P place x

-- There is a new seat for each of so many workers, each with a deque of its own.
abbrev pub AreNew : ℕ → List Seated → Type 0
AreNew workers seats = (deques : List DequeId) × (length deques ≡ workers) × AtEach (IsNew deques) seats
