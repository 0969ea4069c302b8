-- How changes are spelled in a record.
use Rattle.std.specs.Prelude.{ℕ, ◌+◌, List, [], ◌∷◌, ◌++◌, length}
use Rattle.std.specs.Int.{w16, w32, to_le_bytes}
use Rattle.disk_model.specs.declared.change.Change.{Change}
use Rattle.disk_model.specs.declared.change.Change.TheVariants.{Create, Write, Empty, Remove, Rename}

-- the bytes of a change: its kind, and then its fields, numbers with their lowest byte first
abbrev pub spelling : Change → List ℕ
spelling (Create name) = 1 ∷ length name ∷ name
spelling (Write place offset bytes) = 2 ∷ (to_le_bytes w16 place ++ to_le_bytes w32 offset ++ to_le_bytes w16 (length bytes) ++ bytes)
spelling (Empty place) = 3 ∷ to_le_bytes w16 place
spelling (Remove place) = 4 ∷ to_le_bytes w16 place
spelling (Rename place name) = 5 ∷ (to_le_bytes w16 place ++ length name ∷ name)

-- the body of a record: the changes one after the other
unfoldable pub body_of : List Change → List ℕ
body_of [] = []
body_of (c ∷ cs) = spelling c ++ body_of cs

-- what stands after a record's gate: the length of the body, and the body
abbrev pub sized_body : List Change → List ℕ
sized_body cs = to_le_bytes w32 (length (body_of cs)) ++ body_of cs

-- the same with the next gate, closed: what is written before the record's own gate is opened
abbrev pub record_of : List Change → List ℕ
record_of cs = sized_body cs ++ 0 ∷ []

-- the place of the next gate, after a record whose gate is here
abbrev pub gate_after : ℕ → List Change → ℕ
gate_after gate cs = gate + 5 + length (body_of cs)
