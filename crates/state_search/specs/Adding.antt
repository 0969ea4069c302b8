-- What is added of the states that were reached.
use Rattle.std.specs.Prelude.{◌≡◌, ℕ, ◌+◌, if◌then◌else◌, Bool, List, true}
use Rattle.std.specs.List.{Contains}
use Rattle.std.specs.HashSet.{HashSet}
use Rattle.state_search.specs.Keys.{has}
use Rattle.state_search.specs.Searches.{WasReached, times}
use Rattle.state_search.specs.declared.key.Key.{Key}
use Rattle.state_search.specs.declared.moves.Found.{Found}
use Rattle.state_search.specs.declared.moves.Reached.{Reached}

-- how often a state is there that may be there once
abbrev pub one_if : Bool → ℕ
one_if there = if there then 1 else 0

-- of the states that were reached those whose keys were not known are added, each once, by so many moves
pub record AreAdded {S Z : Type 0} (old new : HashSet Key Z) (reached : List (Reached S)) (added : List (Found S)) (moves : ℕ) : Type 0 where
  pub all : (r : Reached S) → Contains reached r → has new r.key ≡ true
  pub counts : (k : Key) → times k added + one_if (has old k) ≡ one_if (has new k)
  pub near : (f : Found S) → Contains added f → f.moves ≡ moves
  pub sound : (f : Found S) → Contains added f → WasReached reached f
