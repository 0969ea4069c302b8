-- Each segment of a program stands in its first memory.
use Rattle.std.proofs.Common.{◌≡◌, ℕ, suc, zero, ◌+◌, ◌-◌, ◌/◌, ◌^◌, ◌<◌, ◌≤◌, Bool, true, false, cond, leb, List, [], ◌∷◌, length, get_or, refl, ap, ◌∙◌, arith}
use Rattle.std.specs.Prelude.{◌&&◌, Some, None, All, slice_index}
use Rattle.std.specs.FinMap.{get}
use Rattle.std.proofs.lemmas.Bool.{le-leb, lt-leb, lt-ltb}
use Rattle.std.proofs.lemmas.List.Elements.{All-head, All-tail, All-get_or}
use Rattle.memory_model.specs.Access.{cell_with}
use Rattle.memory_model.proofs.Memories.{get-memory_of}
use Rattle.machine_model.specs.declared.image.Segment.{Segment}
use Rattle.machine_model.specs.Images.{Program, IsLoadable, IsProfile, AreAscending, first_page, last_page}
use Rattle.machine_model.specs.First.{has_page, byte_at, first_cell, first_state}
use Rattle.machine.proofs.Pages.{first_page-le}

and-no : (b : Bool) → (b && false) ≡ false
and-no true = refl
and-no false = refl

-- an address of a segment lies in its pages
in-pages : (s : Segment) (k : ℕ) → k < s.memsz → has_page s ((s.vaddr + k) / 4096) ≡ true
in-pages s k small =
    let page : ℕ = (s.vaddr + k) / 4096 in
    let low : first_page s ≤ page = omega arith in
    let high : page ≤ last_page s = omega arith in
    ap (λ (b : Bool). b && leb page (last_page s)) (le-leb (first_page s) page low) ∙ le-leb page (last_page s) high

byte-here : (s : Segment) (k : ℕ) → byte_at s (s.vaddr + k) ≡ slice_index s.bytes k
byte-here s k =
    let within : s.vaddr ≤ s.vaddr + k = omega arith in
    let back : s.vaddr + k - s.vaddr ≡ k = omega arith in
    ap (λ (b : Bool). cond b (slice_index s.bytes (s.vaddr + k - s.vaddr)) 0) (le-leb s.vaddr (s.vaddr + k) within) ∙ ap (λ (n : ℕ). slice_index s.bytes n) back

cell-here : (s : Segment) (ss : List Segment) (k : ℕ) → k < s.memsz → first_cell (s ∷ ss) (s.vaddr + k) ≡ Some (cell_with s.rights (slice_index s.bytes k))
cell-here s ss k small =
    ap (λ (b : Bool). cond b (Some (cell_with s.rights (byte_at s (s.vaddr + k)))) (first_cell ss (s.vaddr + k))) (in-pages s k small)
    ∙ ap (λ (byte : ℕ). Some (cell_with s.rights byte)) (byte-here s k)

-- past its pages, a segment says nothing
cell-past : (s : Segment) (ss : List Segment) (a : ℕ) → last_page s < a / 4096 → first_cell (s ∷ ss) a ≡ first_cell ss a
cell-past s ss a past =
    ap (λ (b : Bool). cond (leb (first_page s) (a / 4096) && b) (Some (cell_with s.rights (byte_at s a))) (first_cell ss a)) (lt-leb (a / 4096) (last_page s) past)
    ∙ ap (λ (b : Bool). cond b (Some (cell_with s.rights (byte_at s a))) (first_cell ss a)) (and-no (leb (first_page s) (a / 4096)))

-- what stands at an address of a segment, whose pages are above this one
record IsHere (page : ℕ) (ss : List Segment) (s : Segment) (k : ℕ) : Type 0 where
  above : page ≤ first_page s
  cell : first_cell ss (s.vaddr + k) ≡ Some (cell_with s.rights (slice_index s.bytes k))

pages-between : (page first last at k : ℕ) → page ≤ first → first ≤ last → last + 1 ≤ at / 4096 → (page ≤ at / 4096) × (last < (at + k) / 4096)
pages-between page first last at k a b c = (omega arith, omega arith)

cells-here : (ss : List Segment) (page : ℕ) → AreAscending page ss → All IsLoadable ss → (i : ℕ) (d : Segment) → i < length ss → (k : ℕ) → k < (get_or ss i d).memsz → IsHere page ss (get_or ss i d) k
cells-here [] page up ok i d lt k small = absurd (omega (arith, lt))
cells-here (s ∷ ss) page up ok zero d lt k small = record { above = up.0; cell = cell-here s ss k small }
cells-here (s ∷ ss) page up ok (suc i) d lt k small =
    let x : Segment = get_or ss i d in
    let rest : IsHere (last_page s + 1) ss x k = cells-here ss (last_page s + 1) up.1 (All-tail IsLoadable s ss ok) i d (omega (arith, lt)) k small in
    let between = pages-between page (first_page s) (last_page s) x.vaddr k up.0 (first_page-le s (All-head IsLoadable s ss ok)) rest.above in
    record { above = between.0; cell = cell-past s ss (x.vaddr + k) between.1 ∙ rest.cell }

low-address : (at size k : ℕ) → at + size ≤ 0x7FFF0000 → k < size → at + k < 2 ^ 32
low-address at size k a b = omega arith

-- each segment of a program that may be loaded
pub all-loaded : (p : Program) → IsProfile p → All (λ (s : Segment). (k : ℕ) → k < s.memsz → get (first_state p).architectural.memory (s.vaddr + k) ≡ Some (cell_with s.rights (slice_index s.bytes k))) p.segments
all-loaded p profile i d lt k small =
    let s : Segment = get_or p.segments i d in
    let ok : IsLoadable s = All-get_or IsLoadable p.segments i d lt profile.loadable in
    let here : IsHere 0 p.segments s k = cells-here p.segments 0 profile.ascending profile.loadable i d lt k small in
    get-memory_of (first_cell p.segments) (s.vaddr + k)
    ∙ ap (λ (b : Bool). cond b (first_cell p.segments (s.vaddr + k)) None) (lt-ltb (s.vaddr + k) (2 ^ 32) (low-address s.vaddr s.memsz k ok.below small))
    ∙ here.cell
