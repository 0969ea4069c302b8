-- What an exploration has searched.
use Rattle.std.specs.Prelude.{◌≡◌, ℕ, true, List, [], length, Option, Some, None}
use Rattle.std.specs.Global.{Vec}
use Rattle.state_search.specs.Searches.{IsCut}
use Rattle.state_search.specs.declared.bounds.Bounds.{Bounds}
use Rattle.state_search.specs.declared.moves.Found.{Found}
use Rattle.state_search.specs.declared.parts.Part.{Part}
use Rattle.explored_runs.specs.RunSearches.{FindsPartOfRuns, FindsRuns}
use Rattle.explored_runs.specs.declared.runs.Runs.{Runs}
use Rattle.order_outcomes.specs.declared.totals.Totals.{Totals}
use Rattle.explored_runs.specs.declared.visited.Visits.{Visits}

-- These runs were searched, none was left, and no move left out. So if keys told their states apart, the outcomes of every run are among them.
pub record SearchedAll (r : Runs) : Type 0 where
  pub many : ℕ
  pub depth : ℕ
  pub finds : FindsRuns r many [] depth true

-- a part of them was searched, none was left but to other parts, and no move left out
pub record SearchedPart (r : Runs) (part : Part) : Type 0 where
  pub many : ℕ
  pub others : List (Found (Vec ℕ))
  pub depth : ℕ
  pub finds : FindsPartOfRuns r part.number part.of many [] others depth true

-- what is asked for: a part, or all
abbrev pub SearchedBy : Runs → Option Part → Type 0
SearchedBy r None = SearchedAll r
SearchedBy r (Some part) = SearchedPart r part

-- runs of programs were searched so, where each process runs at most so many instructions to its next call
pub record Explored (instructions : ℕ) (part : Option Part) : Type 0 where
  pub runs : Runs
  pub limit : runs.instructions ≡ instructions
  pub searched : SearchedBy runs part

abbrev pub bounds_of : ℕ → ℕ → Bounds
bounds_of states moves = record { states = states; moves = moves }

-- These runs were searched, as many were left as these totals say, by so many calls, and a move was left out only if they say so. Some are left only where
-- a bound cut the search.
pub record SearchedTo (r : Runs) (t : Totals) (states moves : ℕ) : Type 0 where
  pub many : ℕ
  pub left : List (Found (Vec ℕ))
  pub finds : FindsRuns r many left t.depth t.is_whole
  pub left_are : t.left ≡ length left
  pub cut : IsCut many left t.depth (bounds_of states moves)

-- the same of runs of programs
pub record ExploredTo (instructions : ℕ) (visits : Visits) (t : Totals) (states moves : ℕ) : Type 0 where
  pub runs : Runs
  pub limit : runs.instructions ≡ instructions
  pub visited : runs.visits ≡ visits
  pub searched : SearchedTo runs t states moves
