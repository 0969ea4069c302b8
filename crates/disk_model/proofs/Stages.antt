-- The stages of a group and of a checkpoint: whatever a crash makes of one, the disk holds the old files or the new ones.
use Rattle.std.proofs.Common.{◌≡◌, ℕ, ◌+◌, ◌<◌, ◌≤◌, inl, inr, ◌⊎◌, Bool, true, false, not, List, [], ◌∷◌, length, get_or, refl, sym, ap, subst, ◌∙◌, arith}
use Rattle.std.proofs.lemmas.Bool.{cases_eq}
use Rattle.std.specs.List.{AllByRecursion}
use Rattle.disk_model.specs.declared.change.Change.{Change}
use Rattle.disk_model.specs.declared.change.NamedFile.{NamedFile}
use Rattle.disk_model.specs.Files.{Follow, files_after}
use Rattle.disk_model.specs.Spelling.{record_of, gate_after}
use Rattle.disk_model.specs.Held.{HasBytes, start_of, end_of, Reads, selected_half, IsHeldTo, IsHeld}
use Rattle.disk_model.specs.declared.change.Piece.{Piece}
use Rattle.disk_model.specs.Storage.{overwritten, pieces, one_byte, is_empty, selector}
use Rattle.disk_model.specs.Crash.{InRange, IsSameBut}
use Rattle.disk_model.proofs.Places.{over_below, over_above, over_in, over_length, over_same, Carried, pieces_carried, pieces_cover, pieces_within, pieces_some}
use Rattle.disk_model.proofs.Reading.{record_length, reads_bounds, reads_frame, reads_none, reads_more, closed_after}

-- the disk holds the files, and this is the place after them
pub record AtRest (disk : List ℕ) (half : Bool) (gate : ℕ) (files : List NamedFile) : Type 0 where
  pub held : IsHeldTo disk gate files
  pub selects : selected_half (get_or disk 0 0) ≡ half

abbrev pub Either : List NamedFile → List NamedFile → List ℕ → Type 0
Either old new disk = IsHeld disk old ⊎ IsHeld disk new

-- whatever stands in these ranges
abbrev pub Safe : List Piece → List ℕ → List NamedFile → List NamedFile → Type 0
Safe ps goal old new = (disk : List ℕ) → IsSameBut ps goal disk → Either old new disk

-- one stage leads from this disk to that one
pub record Leads (stage : List Piece) (from to : List ℕ) (old new : List NamedFile) : Type 0 where
  pub same : IsSameBut stage from to
  pub carried : AllByRecursion (Carried to) stage
  pub some : is_empty stage ≡ false
  pub safe : Safe stage to old new

-- these stages lead from this disk, with nothing in flight, to the new files at rest
abbrev pub Ready : List (List Piece) → List ℕ → Bool → ℕ → List NamedFile → List NamedFile → Type 0
Ready [] disk half gate old new = AtRest disk half gate new
Ready (stage ∷ stages) disk half gate old new = (next : List ℕ) × Leads stage disk next old new × Ready stages next half gate old new

abbrev pub IsSize : List ℕ → Type 0
IsSize d = length d ≡ 2097152

bounds : (half : Bool) → (64 ≤ start_of half) × (end_of half ≤ 2097088)
bounds false = (omega arith, omega arith)
bounds true = (omega arith, omega arith)

-- the two halves lie apart
apart : (half : Bool) (i j : ℕ) → start_of half ≤ i → i < end_of half → start_of (not half) ≤ j → j < end_of (not half) → i ≡ j → ⊥
apart false i j a b c d e = omega arith
apart true i j a b c d e = omega arith

-- the selected half up to its gate, the gate and byte 0 are as at rest: the old files
pub still : (d e : List ℕ) (half : Bool) (gate : ℕ) (old : List NamedFile) → AtRest d half gate old → IsSize e
    → get_or e 0 0 ≡ get_or d 0 0 → ((i : ℕ) → start_of half ≤ i → i < gate → get_or e i 0 ≡ get_or d i 0) → (get_or e gate 0 ≡ 1 → ⊥) → AtRest e half gate old
still d e half gate old rest long zero-is same closed = record {
  held = record {
    size = long;
    reads = subst (λ (b : Bool). Reads e b gate old) (sym (ap selected_half zero-is ∙ rest.selects)) (reads_frame d e half gate old same (subst (λ (b : Bool). Reads d b gate old) rest.selects rest.held.reads));
    closed = closed;
  };
  selects = ap selected_half zero-is ∙ rest.selects;
}

pub rest_bounds : (d : List ℕ) (half : Bool) (gate : ℕ) (old : List NamedFile) → AtRest d half gate old → (start_of half ≤ gate) × (gate < end_of half)
rest_bounds d half gate old rest = reads_bounds d half gate old (subst (λ (b : Bool). Reads d b gate old) rest.selects rest.held.reads)

-- a record after the gate, and the gate is open: the new files
grown : (d e : List ℕ) (half : Bool) (gate : ℕ) (old : List NamedFile) (cs : List Change) → AtRest d half gate old → IsSize e → Follow old cs → gate_after gate cs < end_of half
    → get_or e 0 0 ≡ get_or d 0 0 → ((i : ℕ) → start_of half ≤ i → i < gate → get_or e i 0 ≡ get_or d i 0) → HasBytes e (gate + 1) (record_of cs) → get_or e gate 0 ≡ 1
    → AtRest e half (gate_after gate cs) (files_after old cs)
grown d e half gate old cs rest long follow within zero-is same stands opened =
    let selects : selected_half (get_or e 0 0) ≡ half = ap selected_half zero-is ∙ rest.selects in
    let reads : Reads e half (gate_after gate cs) (files_after old cs) =
    reads_more e half gate old cs (reads_frame d e half gate old same (subst (λ (b : Bool). Reads d b gate old) rest.selects rest.held.reads)) follow opened within stands in
    record {
      held = record {
        size = long;
        reads = subst (λ (b : Bool). Reads e b (gate_after gate cs) (files_after old cs)) (sym selects) reads;
        closed = λ open_gate. let shut = closed_after e gate cs stands in omega arith;
      };
      selects = selects;
    }

module _ (d : List ℕ) (half : Bool) (gate : ℕ) (old : List NamedFile) (cs : List Change) (rest : AtRest d half gate old) (follow : Follow old cs) where
  -- ---- a group
  module _ (within : gate_after gate cs < end_of half) where
    new : List NamedFile
    new = files_after old cs

    abbrev g1 : List ℕ
    g1 = overwritten d (gate + 1) (record_of cs)

    abbrev g2 : List ℕ
    g2 = overwritten g1 gate (1 ∷ [])

    room : (gate + 1 + length (record_of cs) ≤ length d) × (64 ≤ gate)
    room = let a = rest_bounds d half gate old rest in let b = bounds half in let l = record_length cs in let s = rest.held.size in (omega arith, omega arith)

    abbrev stage1 : List Piece
    stage1 = pieces (gate + 1) (record_of cs)

    long1 : IsSize g1
    long1 = over_length d (gate + 1) (record_of cs) room.0 ∙ rest.held.size

    out1 : (i : ℕ) → i ≤ gate → InRange stage1 i → ⊥
    out1 i le inside = let w = pieces_within (gate + 1) (record_of cs) i inside in omega arith

    low1 : (i : ℕ) → i ≤ gate → get_or g1 i 0 ≡ get_or d i 0
    low1 i le = over_below d (gate + 1) (record_of cs) i (let r = room in omega arith) (omega arith)

    leads1 : Leads stage1 d g1 old (files_after old cs)
    leads1 = record {
      same = over_same d (gate + 1) (record_of cs) stage1 room.0 (λ i ge lt. pieces_cover (gate + 1) (record_of cs) i ge lt);
      carried = pieces_carried g1 (gate + 1) (record_of cs) (over_in d (gate + 1) (record_of cs) (let r = room in omega arith)) (let r = room in let l = long1 in let s = rest.held.size in omega arith);
      some = pieces_some (gate + 1) (record_of cs) (let l = record_length cs in omega arith);
      safe = λ e s. inl (
        gate,
        (still d e half gate old rest (s.size ∙ long1)
            (s.same 0 (out1 0 (omega arith)) ∙ low1 0 (omega arith))
            (λ i ge lt. s.same i (out1 i (omega arith)) ∙ low1 i (omega arith))
            (λ one. rest.held.closed (sym (s.same gate (out1 gate (omega arith)) ∙ low1 gate (omega arith)) ∙ one))).held,
      );
    }

    long2 : IsSize g2
    long2 = over_length g1 gate (1 ∷ []) (let r = room in let l = long1 in let s = rest.held.size in omega arith) ∙ long1

    out2 : (i : ℕ) → (i ≡ gate → ⊥) → InRange (one_byte gate 1) i → ⊥
    out2 i other (inl h) = other (omega arith)
    out2 i other (inr h) = h

    fits2 : gate + 1 ≤ length g1
    fits2 = let r = room in let l = long1 in let s = rest.held.size in omega arith

    low2 : (i : ℕ) → i < gate → get_or g2 i 0 ≡ get_or d i 0
    low2 i lt = over_below g1 gate (1 ∷ []) i (let f = fits2 in omega arith) lt ∙ low1 i (omega arith)

    stands2 : HasBytes g2 (gate + 1) (record_of cs)
    stands2 i lt = over_above g1 gate (1 ∷ []) (gate + 1 + i) (let f = fits2 in omega arith) (omega arith) ∙ over_in d (gate + 1) (record_of cs) (let r = room in omega arith) i lt

    -- the record is there, and the gate may be open or not
    either : (e : List ℕ) → IsSameBut (one_byte gate 1) g2 e → (get_or e gate 0 ≡ 1) ⊎ (get_or e gate 0 ≡ 1 → ⊥) → Either old (files_after old cs) e
    either e s (inl opened) = inr (
      gate_after gate cs,
      (grown d e half gate old cs rest (s.size ∙ long2) follow within
          (let r = room in s.same 0 (out2 0 (λ q. omega arith)) ∙ low2 0 (omega arith))
          (λ i ge lt. s.same i (out2 i (λ q. omega arith)) ∙ low2 i lt)
          (λ i lt. s.same (gate + 1 + i) (out2 (gate + 1 + i) (λ q. omega arith)) ∙ stands2 i lt)
          opened).held,
    )
    either e s (inr shut) = inl (
      gate,
      (still d e half gate old rest (s.size ∙ long2)
          (let r = room in s.same 0 (out2 0 (λ q. omega arith)) ∙ low2 0 (omega arith))
          (λ i ge lt. s.same i (out2 i (λ q. omega arith)) ∙ low2 i lt)
          shut).held,
    )

    spot_in : (i : ℕ) → gate ≤ i → i < gate + length {A = ℕ} (1 ∷ []) → InRange (one_byte gate 1) i
    spot_in i ge lt = inl (ge, lt)

    gate2 : get_or g2 gate 0 ≡ 1
    gate2 = ap (λ (k : ℕ). get_or g2 k 0) (let e : gate ≡ gate + 0 = omega arith in e) ∙ over_in g1 gate (1 ∷ []) (let f = fits2 in omega arith) 0 (omega arith)

    leads2 : Leads (one_byte gate 1) g1 g2 old (files_after old cs)
    leads2 = record {
      same = over_same g1 gate (1 ∷ []) (one_byte gate 1) fits2 spot_in;
      carried = ((over_in g1 gate (1 ∷ []) (let f = fits2 in omega arith), let f = fits2 in let l = long1 in let k = long2 in omega arith), tt);
      some = refl;
      safe = λ e s. either e s (cases_eq (get_or e gate 0) 1);
    }

    pub group_ready : Ready (pieces (gate + 1) (record_of cs) ∷ one_byte gate 1 ∷ []) d half (gate_after gate cs) old (files_after old cs)
    group_ready = (g1, leads1, (g2, leads2, grown d g2 half gate old cs rest long2 follow within (let r = room in low2 0 (omega arith)) (λ i ge lt. low2 i lt) stands2 gate2))

-- ---- a checkpoint
module _ (d : List ℕ) (half : Bool) (gate : ℕ) (old : List NamedFile) (cs : List Change) (rest : AtRest d half gate old) (follow : Follow [] cs) (within : gate_after (start_of (not half)) cs < end_of (not half)) where
  abbrev there : ℕ
  there = start_of (not half)

  -- the selected half and byte 0 are as they were
  record Alike (g : List ℕ) : Type 0 where
    long : IsSize g
    zero_is : get_or g 0 0 ≡ get_or d 0 0
    in_half : (i : ℕ) → start_of half ≤ i → i < end_of half → get_or g i 0 ≡ get_or d i 0

  alike_held : (g : List ℕ) → Alike g → IsHeld g old
  alike_held g a =
      let b = rest_bounds d half gate old rest in
      (gate, (still d g half gate old rest a.long a.zero_is (λ i ge lt. a.in_half i ge (omega arith)) (λ one. rest.held.closed (sym (a.in_half gate b.0 b.1) ∙ one))).held)

  -- outside the selected half
  Far : List Piece → Type 0
  Far stage = (i : ℕ) → InRange stage i → (there ≤ i) × (i < end_of (not half))

  far_zero : (stage : List Piece) → Far stage → InRange stage 0 → ⊥
  unfolding Far
  far_zero stage far h = let f = far 0 h in let b = bounds (not half) in omega arith

  far_half : (stage : List Piece) → Far stage → (i : ℕ) → start_of half ≤ i → i < end_of half → InRange stage i → ⊥
  unfolding Far
  far_half stage far i ge lt h = let f = far i h in apart half i i ge lt f.0 f.1 refl

  alike_more : (stage : List Piece) → Far stage → (g e : List ℕ) → IsSameBut stage g e → Alike g → Alike e
  alike_more stage far g e s a = record {
    long = s.size ∙ a.long;
    zero_is = s.same 0 (far_zero stage far) ∙ a.zero_is;
    in_half = λ i ge lt. s.same i (far_half stage far i ge lt) ∙ a.in_half i ge lt;
  }

  aside : (stage : List Piece) → Far stage → is_empty stage ≡ false → (g : List ℕ) (at : ℕ) (bs : List ℕ) → Alike g → at + length bs ≤ end_of (not half)
      → ((i : ℕ) → at ≤ i → i < at + length bs → InRange stage i) → AllByRecursion (Carried (overwritten g at bs)) stage
      → Leads stage g (overwritten g at bs) old (files_after [] cs) × Alike (overwritten g at bs)
  aside stage far some g at bs a le cover carried =
      let b = bounds (not half) in
      let same : IsSameBut stage g (overwritten g at bs) = over_same g at bs stage (let l = a.long in omega arith) cover in
      let after : Alike (overwritten g at bs) = alike_more stage far g (overwritten g at bs) same a in (
        record {
          same = same;
          carried = carried;
          some = some;
          safe = λ e s. inl (alike_held e (alike_more stage far (overwritten g at bs) e s after));
        },
        after,
      )

  abbrev c1 : List ℕ
  c1 = overwritten d there (0 ∷ [])

  abbrev c2 : List ℕ
  c2 = overwritten c1 (there + 1) (record_of cs)

  abbrev c3 : List ℕ
  c3 = overwritten c2 there (1 ∷ [])

  abbrev c4 : List ℕ
  c4 = overwritten c3 0 (selector (not half) ∷ [])

  spot_cover : (at b : ℕ) (i : ℕ) → at ≤ i → i < at + length {A = ℕ} (b ∷ []) → InRange (one_byte at b) i
  spot_cover at b i ge lt = inl (ge, lt)

  spot_carried : (g : List ℕ) (at b : ℕ) → at + 1 ≤ length g → AllByRecursion (Carried (overwritten g at (b ∷ []))) (one_byte at b)
  spot_carried g at b le = ((over_in g at (b ∷ []) (omega arith), let l = over_length g at (b ∷ []) le in omega arith), tt)

  spot_far : (b : ℕ) → Far (one_byte there b)
  unfolding Far
  spot_far b i (inl h) = (omega arith, omega arith)
  spot_far b i (inr h) = absurd h

  pieces_far : Far (pieces (there + 1) (record_of cs))
  unfolding Far
  pieces_far i h = let w = pieces_within (there + 1) (record_of cs) i h in let l = record_length cs in (omega arith, omega arith)

  alike0 : Alike d
  alike0 = record { long = rest.held.size; zero_is = refl; in_half = λ i ge lt. refl }

  fits_in : (g : List ℕ) → Alike g → (there + 1 ≤ length g) × (there + 1 + length (record_of cs) ≤ length g)
  fits_in g a = let b = bounds (not half) in let l = record_length cs in let s = a.long in (omega arith, omega arith)

  first : Leads (one_byte there 0) d c1 old (files_after [] cs) × Alike c1
  first = aside (one_byte there 0) (spot_far 0) refl d there (0 ∷ []) alike0 (omega arith) (spot_cover there 0) (spot_carried d there 0 (fits_in d alike0).0)

  next : Leads (pieces (there + 1) (record_of cs)) c1 c2 old (files_after [] cs) × Alike c2
  next =
      let f = fits_in c1 first.1 in let l = record_length cs in
      aside (pieces (there + 1) (record_of cs)) pieces_far (pieces_some (there + 1) (record_of cs) (omega arith)) c1 (there + 1) (record_of cs) first.1 (omega arith)
      (pieces_cover (there + 1) (record_of cs))
      (pieces_carried c2 (there + 1) (record_of cs) (over_in c1 (there + 1) (record_of cs) (omega arith)) (let k = over_length c1 (there + 1) (record_of cs) f.1 in omega arith))

  third : Leads (one_byte there 1) c2 c3 old (files_after [] cs) × Alike c3
  third = aside (one_byte there 1) (spot_far 1) refl c2 there (1 ∷ []) next.1 (omega arith) (spot_cover there 1) (spot_carried c2 there 1 (fits_in c2 next.1).0)

  -- the record stands in the other half, after an open gate
  written : (e : List ℕ) → ((i : ℕ) → 1 ≤ i → get_or e i 0 ≡ get_or c3 i 0)
      → Reads e (not half) (gate_after there cs) (files_after [] cs) × (get_or e (gate_after there cs) 0 ≡ 1 → ⊥)
  written e same =
      let b = bounds (not half) in
      let f2 = fits_in c2 next.1 in let f1 = fits_in c1 first.1 in
      let stands : HasBytes e (there + 1) (record_of cs) =
      λ i lt. same (there + 1 + i) (omega arith)
      ∙ over_above c2 there (1 ∷ []) (there + 1 + i) (omega arith) (omega arith)
      ∙ over_in c1 (there + 1) (record_of cs) (omega arith) i lt in
      let opened : get_or e there 0 ≡ 1 =
      same there (omega arith) ∙ ap (λ (k : ℕ). get_or c3 k 0) (let q : there ≡ there + 0 = omega arith in q) ∙ over_in c2 there (1 ∷ []) (omega arith) 0 (omega arith) in
      (reads_more e (not half) there [] cs (reads_none e (not half)) follow opened within stands, λ one. let shut = closed_after e there cs stands in omega arith)

  alike4 : IsSameBut (one_byte 0 (selector (not half))) c3 c4
  alike4 = over_same c3 0 (selector (not half) ∷ []) (one_byte 0 (selector (not half))) (let l = third.1.long in omega arith) (spot_cover 0 (selector (not half)))

  not_zero : (b i : ℕ) → 1 ≤ i → InRange (one_byte 0 b) i → ⊥
  not_zero b i ge (inl h) = omega arith
  not_zero b i ge (inr h) = h

  late : (e : List ℕ) → IsSameBut (one_byte 0 (selector (not half))) c4 e → (i : ℕ) → 1 ≤ i → get_or e i 0 ≡ get_or c3 i 0
  late e s i ge = s.same i (not_zero (selector (not half)) i ge) ∙ alike4.same i (not_zero (selector (not half)) i ge)

  new_at : (e : List ℕ) → IsSize e → ((i : ℕ) → 1 ≤ i → get_or e i 0 ≡ get_or c3 i 0) → selected_half (get_or e 0 0) ≡ not half → AtRest e (not half) (gate_after there cs) (files_after [] cs)
  new_at e long same selects = let w = written e same in record {
    held = record {
      size = long;
      reads = subst (λ (b : Bool). Reads e b (gate_after there cs) (files_after [] cs)) (sym selects) w.0;
      closed = w.1;
    };
    selects = selects;
  }

  old_at : (e : List ℕ) → IsSize e → ((i : ℕ) → 1 ≤ i → get_or e i 0 ≡ get_or c3 i 0) → selected_half (get_or e 0 0) ≡ half → IsHeld e old
  old_at e long same selects =
      let b = rest_bounds d half gate old rest in let z = bounds half in
      let as_was : (i : ℕ) → start_of half ≤ i → i < end_of half → get_or e i 0 ≡ get_or d i 0 = λ i ge lt. same i (omega arith) ∙ third.1.in_half i ge lt in (
        gate,
        record {
          size = long;
          reads = subst (λ (v : Bool). Reads e v gate old) (sym selects) (reads_frame d e half gate old (λ i ge lt. as_was i ge (omega arith)) (subst (λ (v : Bool). Reads d v gate old) rest.selects rest.held.reads));
          closed = λ one. rest.held.closed (sym (as_was gate b.0 b.1) ∙ one);
        },
      )

  whichever : (e : List ℕ) → IsSize e → ((i : ℕ) → 1 ≤ i → get_or e i 0 ≡ get_or c3 i 0) → (selected_half (get_or e 0 0) ≡ half) ⊎ (selected_half (get_or e 0 0) ≡ not half) → Either old (files_after [] cs) e
  whichever e long same (inl is) = inl (old_at e long same is)
  whichever e long same (inr is) = inr (gate_after there cs, (new_at e long same is).held)

  two : (b c : Bool) → (b ≡ c) ⊎ (b ≡ not c)
  two true true = inl refl
  two true false = inr refl
  two false true = inr refl
  two false false = inl refl

  selected : (b : Bool) → selected_half (selector b) ≡ b
  selected true = refl
  selected false = refl

  long4 : IsSize c4
  long4 = alike4.size ∙ third.1.long

  zero4 : selected_half (get_or c4 0 0) ≡ not half
  zero4 = ap selected_half (over_in c3 0 (selector (not half) ∷ []) (omega arith) 0 (omega arith)) ∙ selected (not half)

  last : Leads (one_byte 0 (selector (not half))) c3 c4 old (files_after [] cs)
  last = record {
    same = alike4;
    carried = spot_carried c3 0 (selector (not half)) (let l = third.1.long in omega arith);
    some = refl;
    safe = λ e s. whichever e (s.size ∙ long4) (late e s) (two (selected_half (get_or e 0 0)) half);
  }

  pub checkpoint_ready : Ready (one_byte there 0 ∷ pieces (there + 1) (record_of cs) ∷ one_byte there 1 ∷ one_byte 0 (selector (not half)) ∷ []) d (not half) (gate_after there cs) old (files_after [] cs)
  checkpoint_ready = (c1, first.0, (c2, next.0, (c3, third.0, (c4, last, new_at c4 long4 (λ i ge. alike4.same i (not_zero (selector (not half)) i ge)) zero4))))
