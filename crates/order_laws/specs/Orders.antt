-- Orders of moves, and which of them are explored. Nothing here is of a kernel.
use Rattle.std.specs.Prelude.{◌≡◌, ℕ, ◌≤◌, ◌⊎◌, nat_lt, Bool, true, false, if◌then◌else◌, List, [], ◌∷◌, length}

-- A system of moves: what a move does in a state; its label there; whether a move with a label does anything; whether moves with two
-- labels are independent; and the rank of a move, by which orders are told apart
pub record System (S M L : Type 0) : Type 0 where
  pub go : S → M → S
  pub label : S → M → L
  pub works : L → Bool
  pub independent : L → L → Bool
  pub rank : M → ℕ

-- the state after these moves, the first of them first
abbrev pub reached : {S M L : Type 0} → System S M L → S → List M → S
reached y s [] = s
reached y s (m ∷ ms) = reached y (y.go s m) ms

-- What is asked of a system, in the states in which P holds. A move that does nothing leaves the state as it is. And two moves one after
-- the other whose labels are independent have the same labels in the other order, and lead to the same state.
pub record Commutes {S M L : Type 0} (y : System S M L) (P : S → Type 0) : Type 0 where
  pub keeps : (s : S) (m : M) → P s → P (y.go s m)
  pub idle : (s : S) (m : M) → P s → y.works (y.label s m) ≡ false → y.go s m ≡ s
  pub before : (s : S) (m n : M) → P s → y.independent (y.label s m) (y.label (y.go s m) n) ≡ true → y.label s n ≡ y.label (y.go s m) n
  pub afterwards : (s : S) (m n : M) → P s → y.independent (y.label s m) (y.label (y.go s m) n) ≡ true → y.label (y.go s n) m ≡ y.label s m
  pub same : (s : S) (m n : M) → P s → y.independent (y.label s m) (y.label (y.go s m) n) ≡ true → y.go (y.go s n) m ≡ y.go (y.go s m) n

-- ---- one order for all that come to the same

-- a move that was made, and the label that it had
pub record Made (M L : Type 0) : Type 0 where
  pub move : M
  pub label : L

-- a move as it is made in a state
abbrev pub made_in : {S M L : Type 0} → System S M L → S → M → Made M L
made_in y s m = record { move = m; label = y.label s m }

-- A move may follow these, of which the last is first: it could not have been made before one of a higher rank. The walk goes back over
-- the moves of which it is independent, and no farther.
abbrev pub may_follow : {S M L : Type 0} → System S M L → List (Made M L) → Made M L → Bool
may_follow y [] d = true
may_follow y (p ∷ past) d =
    if y.independent p.label d.label then (if nat_lt (y.rank d.move) (y.rank p.move) then false else may_follow y past d) else true

-- These moves are sorted, from a state on, after those of the past, of which the last is first: each does something, and may follow. They
-- are the lexicographic normal form, which sleep sets explore too.
abbrev pub IsSorted : {S M L : Type 0} → System S M L → List (Made M L) → S → List M → Type 0
IsSorted y past s [] = Unit {0}
IsSorted y past s (m ∷ ms) =
    (y.works (y.label s m) ≡ true) × (may_follow y past (made_in y s m) ≡ true) × IsSorted y (made_in y s m ∷ past) (y.go s m) ms

-- some sorted order comes to the state to which these moves come, in no more moves
pub record HasSorted {S M L : Type 0} (y : System S M L) (s : S) (ms : List M) : Type 0 where
  pub moves : List M
  pub sorted : IsSorted y [] s moves
  pub same : reached y s moves ≡ reached y s ms
  pub no_more : length moves ≤ length ms

-- ---- fewer moves, where only complete orders matter

-- nothing can be moved any more
abbrev pub IsOver : {S M L : Type 0} → System S M L → S → Type 0
IsOver {M = M} y s = (m : M) → y.works (y.label s m) ≡ false

-- each of these moves does something
abbrev pub AllWork : {S M L : Type 0} → System S M L → S → List M → Type 0
AllWork y s [] = Unit {0}
AllWork y s (m ∷ ms) = (y.works (y.label s m) ≡ true) × AllWork y (y.go s m) ms

-- these moves do something each, and after them nothing can be moved
pub record IsComplete {S M L : Type 0} (y : System S M L) (s : S) (ms : List M) : Type 0 where
  pub all : AllWork y s ms
  pub over : IsOver y (reached y s ms)

-- A choice of moves, where V says which moves are private: in each state some private move is chosen, or all moves are that do something.
abbrev pub IsChoice : {S M L : Type 0} → System S M L → (S → M → Type 0) → (S → M → Bool) → Type 0
IsChoice {S = S} {M = M} y V chosen = (s : S) → ((m : M) × (chosen s m ≡ true) × V s m) ⊎ ((m : M) → y.works (y.label s m) ≡ true → chosen s m ≡ true)

-- each of these moves is chosen where it is made
abbrev pub AreChosen : {S M L : Type 0} → System S M L → (S → M → Bool) → S → List M → Type 0
AreChosen y chosen s [] = Unit {0}
AreChosen y chosen s (m ∷ ms) = (chosen s m ≡ true) × AreChosen y chosen (y.go s m) ms

-- some complete order of chosen moves comes to the state to which these come, and is as long
pub record HasChosen {S M L : Type 0} (y : System S M L) (chosen : S → M → Bool) (s : S) (ms : List M) : Type 0 where
  pub moves : List M
  pub chosen_each : AreChosen y chosen s moves
  pub complete : IsComplete y s moves
  pub same : reached y s moves ≡ reached y s ms
  pub as_many : length moves ≡ length ms
