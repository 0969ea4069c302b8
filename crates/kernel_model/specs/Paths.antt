-- How events depend on changes of the files.
use Rattle.std.specs.Prelude.{◌≡◌, ℕ, ◌+◌, ◌<◌, ◌⊎◌, ◌&&◌, ◌||◌, not, nat_lt, Bool, if◌then◌else◌, IsTrue, List, [], ◌∷◌, ◌++◌, Option, Some, None, is_some}
use Rattle.disk_model.specs.declared.change.Change.{Change}
use Rattle.kernel_model.specs.declared.carrier.Carrier.{Carrier}
use Rattle.kernel_model.specs.Entries.{Entry, meets}

-- There is a path from an event that writes `ws` to a later one that reads `rs`, over the entries between them: each event
-- of a path reads a carrier that the one before it in the path wrote.
abbrev pub Leads : List Carrier → List Entry → List Carrier → Type 0
Leads ws [] rs = IsTrue (meets ws rs)
Leads ws (e ∷ es) rs = Leads ws es rs ⊎ (IsTrue (meets ws e.reads) × Leads e.writes es rs)

-- how many changes an event makes
abbrev pub change_count : Entry → ℕ
change_count e = if is_some e.change then 1 else 0

-- The event `e`, which comes after `past`, rests on change k: it makes it, or there is a path to it from the event that
-- made it. n is the number of the first change that `past` makes.
abbrev pub RestsOn : ℕ → List Entry → Entry → ℕ → Type 0
RestsOn n [] e k = IsTrue (is_some e.change) × (k ≡ n)
RestsOn n (x ∷ xs) e k = (IsTrue (is_some x.change) × (k ≡ n) × Leads x.writes xs e.reads) ⊎ RestsOn (n + change_count x) xs e k

-- all changes on which an event rests are among the first c
abbrev pub IsDurable : ℕ → List Entry → Entry → Type 0
IsDurable c past e = (k : ℕ) → RestsOn 0 past e k → k < c

-- the carriers whose content before these entries matters to a reader of `rs` after them
abbrev pub wanted : List Entry → List Carrier → List Carrier
wanted [] rs = rs
wanted (e ∷ es) rs = let later = wanted es rs in if meets e.writes later then later ++ e.reads else later

-- the test of IsDurable, where n is the number of the first change that `past` makes
abbrev pub is_durable_from : ℕ → ℕ → List Entry → Entry → Bool
is_durable_from c n [] e = not (is_some e.change) || nat_lt n c
is_durable_from c n (x ∷ xs) e =
    (not (is_some x.change) || nat_lt n c || not (meets x.writes (wanted xs e.reads))) && is_durable_from c (n + change_count x) xs e

-- the test of IsDurable
abbrev pub is_durable : ℕ → List Entry → Entry → Bool
is_durable c past e = is_durable_from c 0 past e

-- a change, if there is one, before others
abbrev pub with_change : Option Change → List Change → List Change
with_change None cs = cs
with_change (Some c) cs = c ∷ cs

-- the changes that these events made, in order
abbrev pub changes_in_log : List Entry → List Change
changes_in_log [] = []
changes_in_log (e ∷ es) = with_change e.change (changes_in_log es)
