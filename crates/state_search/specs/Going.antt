-- A search that goes on, or a part of one.
use Rattle.std.specs.Prelude.{◌≡◌, ℕ, ◌+◌, ◌*◌, ◌==◌, ◌&&◌, nat_le, Bool, true, if◌then◌else◌, List, length, ◌++◌, ◌⊎◌}
use Rattle.std.specs.List.{Contains}
use Rattle.std.specs.HashSet.{HashSet}
use Rattle.state_search.specs.Adding.{one_if}
use Rattle.state_search.specs.Keys.{has}
use Rattle.state_search.specs.Searches.{AreWhole, IsPart, times}
use Rattle.state_search.specs.Sharing.{others_from, own_from}
use Rattle.state_search.specs.declared.key.Key.{Key}
use Rattle.state_search.specs.declared.moves.Found.{Found}
use Rattle.state_search.specs.declared.moves.Reached.{Reached}

-- it is a search up to this depth, the keys that are known are those of the states that it found, each once, and it says whether
-- no move was left out
pub record IsGoing {S Z : Type 0} (begins : Reached S → Type 0) (expands : List (Found S) → List (Reached S) → Bool → Type 0) (known : HashSet Key Z) (gone_on left others : List (Found S)) (depth : ℕ) (is_whole : Bool) : Type 0 where
  pub searched : IsPart begins expands gone_on left others depth
  pub knows : (k : Key) → times k (others ++ (gone_on ++ left)) ≡ one_if (has known k)
  pub whole : is_whole ≡ true → AreWhole searched.answers

-- states are parted: each is one's own or another's, but not both, and no other is either
pub record IsParted {S : Type 0} (all mine theirs : List (Found S)) : Type 0 where
  pub each : (f : Found S) → Contains all f → Contains mine f ⊎ Contains theirs f
  pub own : (f : Found S) → Contains mine f → Contains all f
  pub others : (f : Found S) → Contains theirs f → Contains all f
  pub counts : (k : Key) → times k all ≡ times k mine + times k theirs
  pub size : length all ≡ length mine + length theirs

-- the states of the last level are left to others, but for some; nothing else of the search is changed
pub record AreLeft {S Z : Type 0} (old new : HashSet Key Z) (gone_on : ℕ) (left others : List (Found S)) (gone_on_now : ℕ) (own others_now : List (Found S)) : Type 0 where
  pub known : new ≡ old
  pub gone : gone_on_now ≡ gone_on
  pub more : List (Found S)
  pub others_are : others_now ≡ others ++ more
  pub parted : IsParted left own more

-- a level is shared out among so many parts where it has 64 states for each
abbrev pub is_enough : ℕ → ℕ → Bool
is_enough of states = nat_le (64 * of) states

-- and that once: before it no state was left to others
abbrev pub is_shared_out : {S : Type 0} → ℕ → List (Found S) → List (Found S) → Bool
is_shared_out of others level = (length others == 0) && is_enough of (length level)

-- what a part keeps of a level: its own where the level is shared out, else all
abbrev pub kept_by : {S : Type 0} → ℕ → ℕ → List (Found S) → List (Found S) → List (Found S)
kept_by number of others level = if is_shared_out of others level then own_from number of 1 level else level

-- what it left to others by then: beside those before, all of that level that are not its own
abbrev pub left_by : {S : Type 0} → ℕ → ℕ → List (Found S) → List (Found S) → List (Found S)
left_by number of others level = if is_shared_out of others level then others ++ others_from number of 1 level else others
