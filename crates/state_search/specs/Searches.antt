-- When a search has left nothing out.
use Rattle.std.specs.Prelude.{◌≡◌, ℕ, suc, Bool, true, ◌+◌, ◌<◌, ◌≤◌, ◌⊎◌, if◌then◌else◌, List, [], ◌∷◌, ◌++◌, length}
use Rattle.std.specs.List.{Contains}
use Rattle.state_search.specs.Keys.{is_same}
use Rattle.state_search.specs.declared.bounds.Bounds.{Bounds}
use Rattle.state_search.specs.declared.key.Key.{Key}
use Rattle.state_search.specs.declared.moves.Found.{Found}
use Rattle.state_search.specs.declared.moves.Reached.{Reached}

-- how many states have this key
abbrev pub times : {S : Type 0} → Key → List (Found S) → ℕ
times k [] = 0
times k (f ∷ fs) = if is_same f.key k then suc (times k fs) else times k fs

-- the states that are next to a level were asked for, and these were answered, and whether no move was left out
pub record Answer (S : Type 0) : Type 0 where
  pub level : List (Found S)
  pub next : List (Reached S)
  pub is_whole : Bool

-- no move was left out of these answers
abbrev pub AreWhole : {S : Type 0} → List (Answer S) → Type 0
AreWhole {S = S} answers = (a : Answer S) → Contains answers a → a.is_whole ≡ true

-- one of the states that were found has this key, and was found by at most so many moves
pub record HasKey {S : Type 0} (found : List (Found S)) (k : Key) (most : ℕ) : Type 0 where
  pub one : Found S
  pub is_found : Contains found one
  pub same_key : one.key ≡ k
  pub near : one.moves ≤ most

-- a state that was found is one of those that were reached
pub record WasReached {S : Type 0} (reached : List (Reached S)) (f : Found S) : Type 0 where
  pub from : Reached S
  pub is_reached : Contains reached from
  pub same_state : f.state ≡ from.state
  pub same_key : f.key ≡ from.key

-- a state that was found is the first one
pub record IsFirst {S : Type 0} (first : Reached S) (f : Found S) : Type 0 where
  pub same_state : f.state ≡ first.state
  pub same_key : f.key ≡ first.key
  pub here : f.moves ≡ 0

-- a state that was found is in one of these answers, and was found by a move more than its level
pub record Came {S : Type 0} (answers : List (Answer S)) (f : Found S) : Type 0 where
  pub answer : Answer S
  pub is_answer : Contains answers answer
  pub reached : WasReached answer.next f
  pub farther : (g : Found S) → Contains answer.level g → f.moves ≡ g.moves + 1

-- this state is in the level of one of these answers
pub record WentOn {S : Type 0} (answers : List (Answer S)) (f : Found S) : Type 0 where
  pub answer : Answer S
  pub is_answer : Contains answers answer
  pub is_in : Contains answer.level f

-- The states that were found are what comes of a first state and of these answers, to depth `depth`. The search went on from some of them, and
-- left the others: some to other parts of the search, and some since it was cut. Each state that was answered is among them, by its key, and by
-- a move more at most than its level; and no other is. States with the same key count as one.
pub record ComesOf {S : Type 0} (first : Reached S) (answers : List (Answer S)) (gone_on left others : List (Found S)) (depth : ℕ) : Type 0 where
  pub begins : HasKey (others ++ (gone_on ++ left)) first.key 0
  pub levels : (a : Answer S) → Contains answers a → (f : Found S) → Contains a.level f → Contains gone_on f
  pub each : (a : Answer S) → Contains answers a → (f : Found S) → Contains a.level f → (r : Reached S) → Contains a.next r → HasKey (others ++ (gone_on ++ left)) r.key (f.moves + 1)
  pub goes_on : (f : Found S) → Contains gone_on f → WentOn answers f
  pub nearer : (f : Found S) → Contains gone_on f → f.moves < depth
  pub farthest : (f : Found S) → Contains left f → f.moves ≡ depth
  pub passed : (f : Found S) → Contains others f → f.moves ≤ depth
  pub comes : (f : Found S) → Contains (others ++ (gone_on ++ left)) f → IsFirst first f ⊎ Came answers f

-- A part of a search to depth `depth`: the first state was asked for, and those next to each level from which it went on, and the states that were
-- found are what comes of this, each once. Those of `others` it left to other parts.
pub record IsPart {S : Type 0} (begins : Reached S → Type 0) (expands : List (Found S) → List (Reached S) → Bool → Type 0) (gone_on left others : List (Found S)) (depth : ℕ) : Type 0 where
  pub first : Reached S
  pub is_first : begins first
  pub answers : List (Answer S)
  pub are_answers : (a : Answer S) → Contains answers a → expands a.level a.next a.is_whole
  pub found : ComesOf first answers gone_on left others depth
  pub once : (k : Key) → times k (others ++ (gone_on ++ left)) ≤ 1

-- A search to depth `depth` is its only part.
abbrev pub IsSearched : {S : Type 0} → (Reached S → Type 0) → (List (Found S) → List (Reached S) → Bool → Type 0) → List (Found S) → List (Found S) → ℕ → Type 0
IsSearched begins expands gone_on left depth = IsPart begins expands gone_on left [] depth

-- A part of a search that says of the states from which it went on how many they are, and keeps none of them. It also says whether no move was left
-- out of the answers.
pub record HasPart {S : Type 0} (begins : Reached S → Type 0) (expands : List (Found S) → List (Reached S) → Bool → Type 0) (many : ℕ) (left others : List (Found S)) (depth : ℕ) (is_whole : Bool) : Type 0 where
  pub gone_on : List (Found S)
  pub are_many : length gone_on ≡ many
  pub part : IsPart begins expands gone_on left others depth
  pub whole : is_whole ≡ true → AreWhole part.answers

abbrev pub HasSearched : {S : Type 0} → (Reached S → Type 0) → (List (Found S) → List (Reached S) → Bool → Type 0) → ℕ → List (Found S) → ℕ → Bool → Type 0
HasSearched begins expands many left depth is_whole = HasPart begins expands many left [] depth is_whole

-- how many states were found
abbrev pub count_of : {S : Type 0} → ℕ → List (Found S) → ℕ
count_of gone_on left = gone_on + length left

-- Why a search ends: it left none, or found more than it may, or came as deep as it may.
abbrev pub IsCut : {S : Type 0} → ℕ → List (Found S) → ℕ → Bounds → Type 0
IsCut gone_on left depth b = (left ≡ []) ⊎ ((b.states < count_of gone_on left) ⊎ (b.moves ≤ depth))

-- It goes on where it found no more than it may, and is not as deep.
pub record MayGoOn {S : Type 0} (gone_on : ℕ) (left : List (Found S)) (depth : ℕ) (b : Bounds) : Type 0 where
  pub states : count_of gone_on left ≤ b.states
  pub moves : depth < b.moves

-- It went no farther than it may.
pub record IsWithin (gone_on depth : ℕ) (b : Bounds) : Type 0 where
  pub states : gone_on ≤ b.states
  pub moves : depth ≤ b.moves
