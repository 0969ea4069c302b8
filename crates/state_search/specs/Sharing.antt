-- What a part of a search leaves to other parts.
use Rattle.std.specs.Prelude.{◌≡◌, ℕ, ◌+◌, ◌≤◌, ◌==◌, nat_le, Bool, if◌then◌else◌, ◌⊎◌, List, [], ◌∷◌}
use Rattle.std.specs.List.{Contains}
use Rattle.state_search.specs.Searches.{HasPart, HasSearched}
use Rattle.state_search.specs.declared.moves.Found.{Found}
use Rattle.state_search.specs.declared.moves.Reached.{Reached}

-- whose turn it is after this one's, among so many
abbrev pub next_turn : ℕ → ℕ → ℕ
next_turn of turn = if nat_le of turn then 1 else turn + 1

-- of states that are shared out one by one among so many, from this one's turn on, those of one part
abbrev pub own_from : {S : Type 0} → ℕ → ℕ → ℕ → List (Found S) → List (Found S)
own_from number of turn [] = []
own_from number of turn (f ∷ fs) = if turn == number then f ∷ own_from number of (next_turn of turn) fs else own_from number of (next_turn of turn) fs

-- and those of the other parts
abbrev pub others_from : {S : Type 0} → ℕ → ℕ → ℕ → List (Found S) → List (Found S)
others_from number of turn [] = []
others_from number of turn (f ∷ fs) = if turn == number then others_from number of (next_turn of turn) fs else f ∷ others_from number of (next_turn of turn) fs

-- A state of a level that is shared out among so many parts is the own one of another part.
pub record IsAnothers {S : Type 0} (number of : ℕ) (level : List (Found S)) (f : Found S) : Type 0 where
  pub other : ℕ
  pub first : 1 ≤ other
  pub last : other ≤ of
  pub another : other ≡ number → ⊥
  pub own : Contains (own_from other of 1 level) f

-- A level was shared out among so many parts: one that the whole search leaves where it is cut there. The part went on from each of its own states of
-- that level, and each that it left to others is another part's own.
pub record IsShared {S : Type 0} (begins : Reached S → Type 0) (expands : List (Found S) → List (Reached S) → Bool → Type 0) (number of : ℕ) (gone_on others : List (Found S)) : Type 0 where
  pub many : ℕ
  pub level : List (Found S)
  pub depth : ℕ
  pub is_whole : Bool
  pub whole : HasSearched begins expands many level depth is_whole
  pub own : (f : Found S) → Contains (own_from number of 1 level) f → Contains gone_on f
  pub anothers : 1 ≤ of → (f : Found S) → Contains others f → IsAnothers number of level f

-- Part `number` of so many parts: it left nothing to others, or what is another's own of one level.
pub record HasShare {S : Type 0} (begins : Reached S → Type 0) (expands : List (Found S) → List (Reached S) → Bool → Type 0) (number of many : ℕ) (left others : List (Found S)) (depth : ℕ) (is_whole : Bool) : Type 0 where
  pub searched : HasPart begins expands many left others depth is_whole
  pub shared : (others ≡ []) ⊎ IsShared begins expands number of searched.gone_on others
