-- What a search of runs finds.
use Rattle.std.specs.Prelude.{◌≡◌, ◌⊎◌, ℕ, Bool, List, [], ◌++◌}
use Rattle.std.specs.Global.{Vec}
use Rattle.state_search.specs.Searches.{HasPart, HasSearched}
use Rattle.state_search.specs.Sharing.{IsShared}
use Rattle.state_search.specs.declared.moves.Found.{Found}
use Rattle.state_search.specs.declared.moves.Reached.{Reached}
use Rattle.explored_runs.specs.Answering.{Expands, HasKeyOf, boot_in, seen_in_runs}
use Rattle.explored_runs.specs.CallSearches.{AreFound, FindsAll, GoesOn, KeysTell}
use Rattle.explored_runs.specs.declared.runs.Runs.{Runs}

-- what may be answered for the first run: that of no calls, with its key
pub record IsFirstRun (r : Runs) (first : Reached (Vec ℕ)) : Type 0 where
  pub calls : first.state.items ≡ []
  pub key : HasKeyOf r [] first.key

-- A search of runs: if its keys told the states of the runs apart, it found all of the boot of its programs.
pub record FindsRuns (r : Runs) (many : ℕ) (left : List (Found (Vec ℕ))) (depth : ℕ) (is_whole : Bool) : Type 0 where
  pub searched : HasSearched (IsFirstRun r) (Expands r) many left depth is_whole
  pub finds : KeysTell (seen_in_runs r) searched.part.first searched.part.answers (searched.gone_on ++ left)
      → FindsAll r.instructions (boot_in r) (seen_in_runs r) searched.gone_on left depth is_whole

-- A part of a search of runs: let keys tell the states of all parts apart, and let what the part found be among them. Then it goes on to states of all
-- parts. What it left to others is other parts' own of a level that was shared out.
pub record FindsPartOfRuns (r : Runs) (number of many : ℕ) (left others : List (Found (Vec ℕ))) (depth : ℕ) (is_whole : Bool) : Type 0 where
  pub searched : HasPart (IsFirstRun r) (Expands r) many left others depth is_whole
  pub shared : (others ≡ []) ⊎ IsShared (IsFirstRun r) (Expands r) number of searched.gone_on others
  pub finds : (all : List (Found (Vec ℕ))) → KeysTell (seen_in_runs r) searched.part.first searched.part.answers all
      → AreFound (others ++ (searched.gone_on ++ left)) all → GoesOn r.instructions (boot_in r) (seen_in_runs r) searched.gone_on all is_whole
