-- When a search of moves has left nothing out.
use Rattle.std.specs.Prelude.{◌≡◌, ℕ, ◌+◌, ◌<◌, ◌≤◌, ◌⊎◌, true, List}
use Rattle.std.specs.List.{Contains}
use Rattle.order_laws.specs.Orders.{System}

-- a state that a search found, and by how many moves
pub record FoundState (S : Type 0) : Type 0 where
  pub state : S
  pub moves : ℕ

-- this state was found, by at most so many moves
pub record HasState {S : Type 0} (found : List (FoundState S)) (s : S) (most : ℕ) : Type 0 where
  pub one : FoundState S
  pub is_found : Contains found one
  pub same : one.state ≡ s
  pub near : one.moves ≤ most

-- From a state that was found a private move was made alone, where V says which moves are private, or each that does something. The states
-- to which these lead were found, by a move more at most.
abbrev pub WentOnFrom : {S M L : Type 0} → System S M L → (S → M → Type 0) → List (FoundState S) → FoundState S → Type 0
WentOnFrom {M = M} y V found f =
    ((m : M) × V f.state m × HasState found (y.go f.state m) (f.moves + 1))
    ⊎ ((m : M) → y.works (y.label f.state m) ≡ true → HasState found (y.go f.state m) (f.moves + 1))

-- A search went from the first state to depth `depth`: it found that state, and went on from each that it found by fewer moves.
pub record IsSearchOf {S M L : Type 0} (y : System S M L) (V : S → M → Type 0) (first : S) (found : List (FoundState S)) (depth : ℕ) : Type 0 where
  pub begins : HasState found first 0
  pub goes_on : (f : FoundState S) → Contains found f → f.moves < depth → WentOnFrom y V found f

-- the search left none of the states that it found: it went on from each
abbrev pub LeftNone : {S : Type 0} → List (FoundState S) → ℕ → Type 0
LeftNone {S = S} found depth = (f : FoundState S) → Contains found f → f.moves < depth
