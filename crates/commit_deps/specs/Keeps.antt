-- The marks of carriers are those of a log.
use Rattle.std.specs.Prelude.{◌≡◌, ℕ, ◌+◌, max, Bool, if◌then◌else◌, List, [], ◌∷◌, Option, Some, None, is_some, is_none, unwrap_or, count_by}
use Rattle.std.specs.List.{find, fold, list_any}
use Rattle.std.specs.Option.{option_map}
use Rattle.kernel_model.specs.declared.carrier.Carrier.{Carrier}
use Rattle.kernel_model.specs.Entries.{Entry, is_same, is_among}
use Rattle.commit_deps.specs.Kept.{Marked}
use Rattle.commit_deps.specs.Marks.{IsMarkOf, reader}

-- the mark of a carrier, if some event wrote it
abbrev pub mark_at : Carrier → List Marked → Option ℕ
mark_at x marks = option_map (λ (k : Marked). k.1) (find (λ (k : Marked). is_same k.0 x) marks)

-- the mark of what a reader of one carrier rests on: 0, for nothing, where no event wrote it
abbrev pub mark_or_none : Carrier → List Marked → ℕ
mark_or_none x marks = unwrap_or (mark_at x marks) 0

-- an event of the log wrote the carrier
abbrev pub is_written : Carrier → List Entry → Bool
is_written x log = list_any (λ (e : Entry). is_among x e.writes) log

-- The marks are those of the log: of each carrier it is known whether an event wrote it, and its mark says exactly what a
-- reader of it rests on. So the greatest mark of several carriers says what a reader of them all rests on.
pub record Keeps (log : List Entry) (marks : List Marked) : Type 0 where
  pub written : (x : Carrier) → is_some (mark_at x marks) ≡ is_written x log
  pub marked : (x : Carrier) → IsMarkOf (mark_or_none x marks) log (reader (x ∷ []))

-- the mark of an event's own change, by the change's number from 0
abbrev pub mark_of_change : Option ℕ → ℕ
mark_of_change None = 0
mark_of_change (Some change) = change + 1

-- the greatest of a mark and the marks of these carriers
abbrev pub greatest_mark : ℕ → List Carrier → List Marked → ℕ
greatest_mark own reads marks = fold (λ (m : ℕ) (x : Carrier). max m (mark_or_none x marks)) own reads

-- the marks after an event of this mark that writes one carrier
abbrev pub noted : Carrier → ℕ → List Marked → List Marked
noted x mark [] = (x, mark) ∷ []
noted x mark (k ∷ ks) = if is_same k.0 x then (k.0, max k.1 mark) ∷ ks else k ∷ noted x mark ks

-- the marks after one that writes several
abbrev pub noted_all : List Carrier → ℕ → List Marked → List Marked
noted_all [] mark marks = marks
noted_all (x ∷ xs) mark marks = noted_all xs mark (noted x mark marks)

-- how many of these carriers no event wrote; one that stands twice counts twice
abbrev pub unwritten_count : List Carrier → List Marked → ℕ
unwritten_count xs marks = count_by (λ (x : Carrier). is_none (mark_at x marks)) xs
