-- Marks of items in order, kept in runs of equal ones.
use Rattle.std.specs.Prelude.{◌≡◌, ℕ, ◌-◌, ◌<◌, ◌==◌, nat_le, Bool, false, if◌then◌else◌, List, [], ◌∷◌, ◌++◌, replicate}
use Rattle.std.specs.List.{prefix_len}
use Rattle.held_output.specs.declared.marks.Run.{Run}

-- marks in order, how many changes are committed, and for how many runs more there is room
pub record MarkList : Type 0 where
  pub marks : List ℕ
  pub committed : ℕ
  pub room : ℕ

abbrev pub no_marks : MarkList
no_marks = record { marks = []; committed = 0; room = 0 }

-- the same, though there may be room for more
pub record IsSameMarks (old new : MarkList) : Type 0 where
  pub marks : new.marks ≡ old.marks
  pub committed : new.committed ≡ old.committed

-- where the first of these runs begins, or the last one before them ends
abbrev pub next : ℕ → List Run → ℕ
next end [] = end
next end (r ∷ rs) = r.start

-- the marks of runs, the last of which ends there
abbrev pub marks_of : ℕ → List Run → List ℕ
marks_of end [] = []
marks_of end (r ∷ rs) = replicate (next end rs - r.start) r.mark ++ marks_of end rs

-- no run is empty
abbrev pub Rises : ℕ → List Run → Type 0
Rises end [] = Unit {0}
Rises end (r ∷ rs) = (r.start < next end rs) × Rises end rs

-- the last run has this mark
abbrev pub ends_with : ℕ → List Run → Bool
ends_with mark [] = false
ends_with mark (r ∷ []) = r.mark == mark
ends_with mark (r ∷ s ∷ rs) = ends_with mark (s ∷ rs)

-- what comes from `start` on has this mark
abbrev pub with_run : ℕ → ℕ → List Run → List Run
with_run start mark rs = if ends_with mark rs then rs else rs ++ record { start = start; mark = mark } ∷ []

-- how many of the first runs have marks of at most c
abbrev pub runs_passed : ℕ → List Run → ℕ
runs_passed c rs = prefix_len (λ r. nat_le r.mark c) rs
