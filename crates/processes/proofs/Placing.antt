-- Where the part of a process stands, and what a write of its entry makes of the parts.
use Rattle.std.proofs.Common.{◌≡◌, ℕ, zero, suc, ◌<◌, nat_lt, List, map, get_or, length, slice_set, Some, ap, sym, ◌∙◌}
use Rattle.std.specs.Prelude.{slice_get}
use Rattle.std.specs.Option.{option_map}
use Rattle.std.proofs.lemmas.List.{map-set, length-map}
use Rattle.std.proofs.lemmas.Option.{cond_some, slice_get-map, slice_get_read}
use borrow.Author.Tests.{ltb-true}
use Rattle.processes.specs.Parts.{Part, part_at, place_in, with_part}
use Rattle.processes.specs.Entries.{Entry}

-- the parts of these entries
abbrev pub parts_of : List Entry → List Part
parts_of es = map (λ (e : Entry). e.part) es

-- an entry that stands in a list has its part there
pub slice_get-parts : (k : ℕ) (es : List Entry) (parts : List Part) (e : Entry) → parts_of es ≡ parts → k < length parts
    → e ≡ get_or es k e → slice_get parts k ≡ Some e.part
slice_get-parts k es parts e kept there read =
    let size : length es ≡ length parts = sym (length-map es (λ (x : Entry). x.part)) ∙ ap length kept in
    let here : slice_get es k ≡ Some e = slice_get_read es (length parts) k e (sym size) there read in
    ap (λ (ps : List Part). slice_get ps k) (sym kept) ∙ slice_get-map (λ (x : Entry). x.part) es k ∙ ap (option_map (λ (x : Entry). x.part)) here

-- a write of one entry writes its part
pub parts_of-set : (k : ℕ) (es : List Entry) (parts : List Part) (new : Entry) (part : Part) → parts_of es ≡ parts → new.part ≡ part
    → parts_of (slice_set es k new) ≡ slice_set parts k part
parts_of-set k es parts new part kept made =
    map-set (λ (x : Entry). x.part) es k new ∙ ap (λ (ps : List Part). slice_set ps k new.part) kept ∙ ap (λ (q : Part). slice_set parts k q) made

-- a write of the entry at a process's place
pub with_part-place : (p k : ℕ) (es : List Entry) (parts : List Part) (e new : Entry) (f : Part → Part) → parts_of es ≡ parts
    → place_in (length parts) p ≡ Some k → e ≡ get_or es k e → new.part ≡ f e.part
    → parts_of (slice_set es k new) ≡ with_part parts p (part_at parts p) f
with_part-place zero k es parts e new f kept placed read made = cc
with_part-place (suc j) k es parts e new f kept placed read made =
    let at = cond_some (nat_lt j (length parts)) j k placed in
    let there : k < length parts = rw (← at.1) (ltb-true j (length parts) at.0) in
    let here : slice_get parts j ≡ Some e.part = rw at.1 (slice_get-parts k es parts e kept there read) in
    parts_of-set k es parts new (f e.part) kept made ∙ rw here (ap (λ (i : ℕ). slice_set parts i (f e.part)) (sym at.1))
