-- Files by their numbers. A file keeps its number as long as it lives, and no number is used again.
use Rattle.std.specs.Prelude.{ℕ, ◌+◌, ◌==◌, Bool, List, [], ◌∷◌, ◌++◌, length, slice_get, Option, Some, None, is_some}
use Rattle.std.specs.List.{position}
use Rattle.disk_model.specs.declared.change.NamedFile.{NamedFile}
use Rattle.disk_model.specs.declared.change.Change.{Change}
use Rattle.disk_model.specs.declared.change.Change.TheVariants.{Create, Write, Empty, Remove, Rename}
use Rattle.disk_model.specs.Files.{changed, loser, without}

-- the files that live, in order of creation; the number of each; and how many files were made so far, which is the next number
pub record Numbered : Type 0 where
  pub living : List NamedFile
  pub numbers : List ℕ
  pub made : ℕ

-- a number for each of these files, rising by one
abbrev pub numbers_from : ℕ → List NamedFile → List ℕ
numbers_from n [] = []
numbers_from n (file ∷ files) = n ∷ numbers_from (n + 1) files

-- these files numbered by their places, from 0: so a run begins
abbrev pub numbered : List NamedFile → Numbered
numbered files = record { living = files; numbers = numbers_from 0 files; made = length files }

-- the place of the file of this number among those that live, if it lives
abbrev pub place_of : Numbered → ℕ → Option ℕ
place_of files number = position (λ n. n == number) files.numbers

-- what stands at a place, if a place is given and something stands there
abbrev pub at_place : {A : Type 0} → List A → Option ℕ → Option A
at_place xs None = None
at_place xs (Some place) = slice_get xs place

-- the file of this number, if it lives
abbrev pub file_of : Numbered → ℕ → Option NamedFile
file_of files number = at_place files.living (place_of files number)

-- the file of this number lives
abbrev pub lives : Numbered → ℕ → Bool
lives files number = is_some (file_of files number)

-- the numbers of the files that live after a change
abbrev pub numbers_after : Numbered → Change → List ℕ
numbers_after files (Create name) = files.numbers ++ files.made ∷ []
numbers_after files (Write place offset bytes) = files.numbers
numbers_after files (Empty place) = files.numbers
numbers_after files (Remove place) = without files.numbers (Some place)
numbers_after files (Rename place name) = without files.numbers (loser files.living (slice_get files.living place) name)

-- how many files were made, after a change
abbrev pub made_after : ℕ → Change → ℕ
made_after made (Create name) = made + 1
made_after made (Write place offset bytes) = made
made_after made (Empty place) = made
made_after made (Remove place) = made
made_after made (Rename place name) = made

-- the files after a change, with their numbers
abbrev pub changed_numbered : Numbered → Change → Numbered
changed_numbered files c = record {
  living = changed files.living c;
  numbers = numbers_after files c;
  made = made_after files.made c;
}

-- the files after these changes, the first of them first
abbrev pub numbered_after : Numbered → List Change → Numbered
numbered_after files [] = files
numbered_after files (c ∷ cs) = numbered_after (changed_numbered files c) cs
