-- A fork: the parent's entry is written, and its child's comes last.
use Rattle.std.proofs.Common.{◌≡◌, ℕ, zero, suc, ◌+◌, ◌-◌, ◌<◌, List, [], ◌∷◌, ◌++◌, map, get_or, length, slice_set, Some, refl, ap, sym, ◌∙◌, arith}
use Rattle.std.proofs.lemmas.List.{get_or-map, get_or-set_same, length-map, length-set, map-append, set-get_or}
use Rattle.std.specs.Prelude.{slice_get}
use Rattle.processes.specs.Parts.{Part, part_at, with_child, child_part, after_fork}
use Rattle.processes.specs.Entries.{Entry}
use Rattle.processes.specs.Table.{child_room}
use Rattle.processes.proofs.Placing.{parts_of, parts_of-set, slice_get-parts}

-- for how many children more of each process memory is taken
abbrev pub rooms_of : List Entry → List ℕ
rooms_of es = map (λ (e : Entry). e.room) es

-- the place of a process, from its number
same_place : (k j : ℕ) → suc k - 1 ≡ j → j ≡ k
same_place k j e = omega arith

-- the room of the process at a place
pub child_room-place : (p j : ℕ) (es : List Entry) (e : Entry) → 0 < p → p - 1 ≡ j → j < length es → e ≡ get_or es j e
    → child_room (rooms_of es) p ≡ e.room
child_room-place zero j es e from_1 placed there read = absurd (omega arith)
child_room-place (suc k) j es e from_1 placed there read =
    rw (← same_place k j placed) (get_or-map (λ (x : Entry). x.room) es j e 0 there ∙ ap (λ (x : Entry). x.room) (sym read))

-- the room of a process whose entry was written
pub child_room-set : (p j : ℕ) (es : List Entry) (new : Entry) → 0 < p → p - 1 ≡ j → j < length es
    → child_room (rooms_of (slice_set es j new)) p ≡ new.room
child_room-set p j es new from_1 placed there =
    let within : j < length (slice_set es j new) = omega (arith, length-set es j new) in
    child_room-place p j (slice_set es j new) new from_1 placed within (sym (get_or-set_same es j new new there))

-- a write that keeps an entry's part keeps the parts
pub parts_of-set_same : (j : ℕ) (es : List Entry) (parts : List Part) (e new : Entry) → parts_of es ≡ parts → j < length es → e ≡ get_or es j e
    → new.part ≡ e.part → parts_of (slice_set es j new) ≡ parts
parts_of-set_same j es parts e new kept there read made =
    let here : get_or (parts_of es) j e.part ≡ e.part = get_or-map (λ (x : Entry). x.part) es j e e.part there ∙ ap (λ (x : Entry). x.part) (sym read) in
    let same : slice_set parts j e.part ≡ parts = ap (λ (ps : List Part). slice_set ps j e.part) (sym kept)
    ∙ ap (λ (q : Part). slice_set (parts_of es) j q) (sym here) ∙ set-get_or (parts_of es) j e.part ∙ kept in
    parts_of-set j es parts new e.part kept made ∙ same

-- the parts after a fork
pub parts_of-fork : (p j : ℕ) (es : List Entry) (parts : List Part) (e new child : Entry) → parts_of es ≡ parts → 0 < p → p - 1 ≡ j → j < length es
    → e ≡ get_or es j e → new.part ≡ with_child (length parts + 1) e.part → child.part ≡ child_part e.part
    → parts_of (slice_set es j new ++ child ∷ []) ≡ after_fork parts p (part_at parts p)
parts_of-fork zero j es parts e new child kept from_1 placed there read made born = absurd (omega arith)
parts_of-fork (suc k) j es parts e new child kept from_1 placed there read made born =
    let size : length es ≡ length parts = sym (length-map es (λ (x : Entry). x.part)) ∙ ap length kept in
    let within : j < length parts = omega arith in
    let place : j ≡ k = same_place k j placed in
    let here : slice_get parts k ≡ Some e.part = rw (← place) (slice_get-parts j es parts e kept within read) in
    let prefix : parts_of (slice_set es j new) ≡ slice_set parts k (with_child (length parts + 1) e.part) =
    rw (← place) (parts_of-set j es parts new (with_child (length parts + 1) e.part) kept made) in
    map-append (λ (x : Entry). x.part) (slice_set es j new) (child ∷ [])
    ∙ ap (λ (ps : List Part). ps ++ child.part ∷ []) prefix
    ∙ ap (λ (q : Part). slice_set parts k (with_child (length parts + 1) e.part) ++ q ∷ []) born
    ∙ rw here refl
