-- What the seats of a pool are made of.
use Rattle.std.specs.Prelude.{◌≡◌, ℕ, List, [], ◌∷◌, ◌++◌, length, map, reverse, None}
use Rattle.bursts.specs.Holdings.{Holding}
use Rattle.pool.specs.Deques.{DequeId, AtDeque, new_at}
use Rattle.pool.specs.Queues.{new_at_queue}
use Rattle.pool.specs.Seats.{Seated}

-- nothing was done at a deque
abbrev pub IsUnused : AtDeque → Type 0
IsUnused d = d ≡ new_at d.deque

-- which deques these are
abbrev pub ids_of : List AtDeque → List DequeId
ids_of ds = map (λ (d : AtDeque). d.deque) ds

-- The others of the deque at a place of a list: those before it, from the last to the first, and then those after it, from the last
-- to the first. Nothing was done at them.
pub record AreOthers (deques : List AtDeque) (place : ℕ) (others : List AtDeque) : Type 0 where
  pub before : List AtDeque
  pub own : AtDeque
  pub after : List AtDeque
  pub place_is : length before ≡ place
  pub deques_are : deques ≡ before ++ own ∷ after
  pub others_are : others ≡ map new_at (ids_of (reverse before ++ reverse after))

-- a seat of these deques with this share, at which nothing was done yet
abbrev pub seat_with : AtDeque → List AtDeque → Holding → Seated
seat_with own others share = record { own = own; others = others; spare = None; results = new_at_queue; share = share; told = [] }
