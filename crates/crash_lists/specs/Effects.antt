-- Which bytes a change changes. Past its end a file has zeros.
use Rattle.std.specs.Prelude.{◌≡◌, ℕ, ◌+◌, ◌<◌, ◌≤◌, List, slice_index}
use Rattle.crash_lists.specs.declared.presence.Part.{Part}
use Rattle.crash_lists.specs.declared.presence.Part.TheVariants.{Names, Length, Bytes}

-- before a change and after it a file has the same bytes from a place on, up to another
abbrev pub AreSame : List ℕ → List ℕ → ℕ → ℕ → Type 0
AreSame before after from to = (k : ℕ) → from ≤ k → k < to → slice_index before k ≡ slice_index after k

-- the byte at a place is not the same
abbrev pub Differs : List ℕ → List ℕ → ℕ → Type 0
Differs before after k = slice_index before k ≡ slice_index after k → ⊥

-- of the bytes from a place on, up to another, this is the first that is not the same
pub record IsFirstChange (before after : List ℕ) (from to first : ℕ) : Type 0 where
  pub low : from ≤ first
  pub high : first < to
  pub differs : Differs before after first
  pub same : AreSame before after from first

-- this is the last
pub record IsLastChange (before after : List ℕ) (from to last : ℕ) : Type 0 where
  pub low : from ≤ last
  pub high : last < to
  pub differs : Differs before after last
  pub same : AreSame before after (last + 1) to

-- the part of a change that these bytes are: from the first to the last that is not the same
abbrev pub IsChangeOf : List ℕ → List ℕ → ℕ → ℕ → Part → Type 0
IsChangeOf before after from to Names = ⊥
IsChangeOf before after from to Length = ⊥
IsChangeOf before after from to (Bytes first last) = IsFirstChange before after from to first × IsLastChange before after from to last
