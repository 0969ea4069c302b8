-- What a fill leaves is a crash, and each crash is what some fill leaves.
use Rattle.std.proofs.Common.{◌≡◌, ℕ, zero, suc, ◌+◌, ◌<◌, ◌≤◌, ◌%◌, Bool, true, false, List, [], ◌∷◌, ◌++◌, length, get_or, refl, sym, ap, subst, ◌∙◌, append_assoc, arith, inl, inr}
use Rattle.std.specs.Prelude.{◌||◌, ◌&&◌, nat_le, nat_lt, if◌then◌else◌}
use Rattle.std.specs.List.{AllByRecursion}
use Rattle.std.proofs.lemmas.Bool.{and_parts, leb-true, le-leb, ltb-true, lt-ltb}
use Rattle.std.proofs.lemmas.List.{length-append}
use Rattle.std.proofs.Math.Bool.{or-true}
use Rattle.std.proofs.Math.Nat.{mod-eq_of_lt}
use Rattle.std.proofs.Math.Seq.{get_or-append_seam}
use Rattle.disk_model.specs.declared.change.Piece.{Piece}
use Rattle.disk_model.specs.Storage.{Device, is_empty}
use Rattle.disk_model.specs.Crash.{InRange, IsCrashOf}
use Rattle.disk_model.proofs.Tidy.{IsByte}
use Rattle.simdisk.specs.Room.{in_range, filled, crashed}

-- ---- the test for a place in a range

abbrev is_within : Piece → ℕ → Bool
is_within p i = nat_le p.at i && nat_lt i (p.at + length p.bytes)

within_of : (p : Piece) (i : ℕ) → is_within p i ≡ true → (p.at ≤ i) × (i < p.at + length p.bytes)
within_of p i e = let both = and_parts (nat_le p.at i) (nat_lt i (p.at + length p.bytes)) e in (leb-true p.at i both.0, ltb-true i (p.at + length p.bytes) both.1)

within_true : (p : Piece) (i : ℕ) → (p.at ≤ i) × (i < p.at + length p.bytes) → is_within p i ≡ true
within_true p i h =
    ap (λ (b : Bool). b && nat_lt i (p.at + length p.bytes)) (le-leb p.at i h.0) ∙ lt-ltb i (p.at + length p.bytes) h.1

in_of : (ps : List Piece) (i : ℕ) → in_range ps i ≡ true → InRange ps i
in_of [] i e = absurd cc
in_of (p ∷ ps) i e = go (is_within p i) refl e (in_of ps i)
  where
    go : (b : Bool) → is_within p i ≡ b → (b || in_range ps i) ≡ true → (in_range ps i ≡ true → InRange ps i) → InRange (p ∷ ps) i
    go true w h rest = inl (within_of p i w)
    go false w h rest = inr (rest h)

in_true : (ps : List Piece) (i : ℕ) → InRange ps i → in_range ps i ≡ true
in_true [] i h = absurd h
in_true (p ∷ ps) i (inl h) = ap (λ (b : Bool). b || in_range ps i) (within_true p i h)
in_true (p ∷ ps) i (inr h) = ap (λ (b : Bool). is_within p i || b) (in_true ps i h) ∙ or-true (is_within p i)

out_of : (ps : List Piece) (i : ℕ) → (InRange ps i → ⊥) → in_range ps i ≡ false
out_of ps i out = go (in_range ps i) refl
  where
    go : (b : Bool) → in_range ps i ≡ b → b ≡ false
    go true e = absurd (out (in_of ps i e))
    go false e = refl

not_in : (ps : List Piece) (i : ℕ) → in_range ps i ≡ false → InRange ps i → ⊥
not_in ps i e h = let t = in_true ps i h in let clash : true ≡ false = sym t ∙ e in cc

-- ---- what a fill leaves

filled_length : (ps : List Piece) (fill : List ℕ) (i k : ℕ) (bytes : List ℕ) → length (filled ps fill i k bytes) ≡ length bytes
filled_length ps fill i k [] = refl
filled_length ps fill i k (b ∷ bytes) =
    elim (in_range ps i) as (λ c. length (if c then get_or fill (k % length fill) 0 ∷ filled ps fill (i + 1) (k + 1) bytes else b ∷ filled ps fill (i + 1) k bytes) ≡ length (b ∷ bytes)) [
      | true ↦ ap suc (filled_length ps fill (i + 1) (k + 1) bytes)
      | false ↦ ap suc (filled_length ps fill (i + 1) k bytes)
    ]

filled_same : (ps : List Piece) (fill : List ℕ) (i k : ℕ) (bytes : List ℕ) (n : ℕ) → (InRange ps (i + n) → ⊥) → get_or (filled ps fill i k bytes) n 0 ≡ get_or bytes n 0
filled_same ps fill i k [] n out = refl
filled_same ps fill i k (b ∷ bytes) zero out =
    ap (λ (c : Bool). get_or (if c then get_or fill (k % length fill) 0 ∷ filled ps fill (i + 1) (k + 1) bytes else b ∷ filled ps fill (i + 1) k bytes) 0 0)
    (out_of ps i (λ h. out (subst (InRange ps) (let e : i ≡ i + 0 = omega arith in e) h)))
filled_same ps fill i k (b ∷ bytes) (suc n) out =
    let further : InRange ps (i + 1 + n) → ⊥ = λ h. out (subst (InRange ps) (let e : i + 1 + n ≡ i + suc n = omega arith in e) h) in
    elim (in_range ps i) as (λ c. get_or (if c then get_or fill (k % length fill) 0 ∷ filled ps fill (i + 1) (k + 1) bytes else b ∷ filled ps fill (i + 1) k bytes) (suc n) 0 ≡ get_or (b ∷ bytes) (suc n) 0) [
      | true ↦ filled_same ps fill (i + 1) (k + 1) bytes n further
      | false ↦ filled_same ps fill (i + 1) k bytes n further
    ]

crash_by : (v : Device) (fill : List ℕ) (b : Bool) → IsCrashOf v (if b then v.disk else filled (v.in_flight ++ v.failed) fill 0 0 v.disk)
crash_by v fill true = record { size = refl; same = λ i out. refl }
crash_by v fill false = record {
  size = filled_length (v.in_flight ++ v.failed) fill 0 0 v.disk;
  same = λ i out. filled_same (v.in_flight ++ v.failed) fill 0 0 v.disk i (λ h. out (subst (InRange (v.in_flight ++ v.failed)) (let e : 0 + i ≡ i = omega arith in e) h));
}

pub crash_of : (v : Device) (fill : List ℕ) → IsCrashOf v (crashed v fill)
crash_of v fill = crash_by v fill (is_empty fill)

-- ---- a fill that leaves it

-- the bytes in the ranges, from place i on
abbrev picked : List Piece → ℕ → List ℕ → List ℕ
picked ps i [] = []
picked ps i (x ∷ xs) = if in_range ps i then x ∷ picked ps (i + 1) xs else picked ps (i + 1) xs

picked_bytes : (ps : List Piece) (i : ℕ) (xs : List ℕ) → AllByRecursion IsByte xs → AllByRecursion IsByte (picked ps i xs)
picked_bytes ps i [] all = tt
picked_bytes ps i (x ∷ xs) all =
    elim (in_range ps i) as (λ c. AllByRecursion IsByte (if c then x ∷ picked ps (i + 1) xs else picked ps (i + 1) xs)) [
      | true ↦ (all.0, picked_bytes ps (i + 1) xs all.1)
      | false ↦ picked_bytes ps (i + 1) xs all.1
    ]

-- the two are the same outside the ranges, from place i on
abbrev AgreeOutside : List Piece → ℕ → List ℕ → List ℕ → Type 0
AgreeOutside ps i xs ys = (n : ℕ) → (InRange ps (i + n) → ⊥) → get_or ys n 0 ≡ get_or xs n 0

agree_rest : (ps : List Piece) (i b x : ℕ) (bytes left : List ℕ) → AgreeOutside ps i (b ∷ bytes) (x ∷ left) → AgreeOutside ps (i + 1) bytes left
agree_rest ps i b x bytes left agree n out = agree (suc n) (λ h. out (subst (InRange ps) (let e : i + suc n ≡ i + 1 + n = omega arith in e) h))

agree_first : (ps : List Piece) (i b x : ℕ) (bytes left : List ℕ) → AgreeOutside ps i (b ∷ bytes) (x ∷ left) → in_range ps i ≡ false → x ≡ b
agree_first ps i b x bytes left agree e = agree 0 (λ h. not_in ps i e (subst (InRange ps) (let e : i + 0 ≡ i = omega arith in e) h))

read_at : (before rest : List ℕ) (x k : ℕ) → k ≡ length before → get_or (before ++ x ∷ rest) (k % length (before ++ x ∷ rest)) 0 ≡ x
read_at before rest x k at =
    let inside : k < length (before ++ x ∷ rest) = omega (arith, length-append before (x ∷ rest)) in
    ap (λ (j : ℕ). get_or (before ++ x ∷ rest) j 0) (mod-eq_of_lt inside ∙ at) ∙ get_or-append_seam before x rest 0

fill_back : (ps : List Piece) (fill before : List ℕ) (i k : ℕ) (bytes left : List ℕ) → fill ≡ before ++ picked ps i left → k ≡ length before → length left ≡ length bytes
    → AgreeOutside ps i bytes left → filled ps fill i k bytes ≡ left
fill_back ps fill before i k [] [] is at long agree = refl
fill_back ps fill before i k [] (x ∷ left) is at long agree = absurd (omega arith)
fill_back ps fill before i k (b ∷ bytes) [] is at long agree = absurd (omega arith)
fill_back ps fill before i k (b ∷ bytes) (x ∷ left) is at long agree =
    let rest = agree_rest ps i b x bytes left agree in
    go (in_range ps i) refl is
    (λ f. fill_back ps fill (before ++ x ∷ []) (i + 1) (k + 1) bytes left (f ∙ sym (append_assoc before (x ∷ []) (picked ps (i + 1) left))) (omega (arith, length-append before (x ∷ []))) (omega arith) rest)
    (λ f. fill_back ps fill before (i + 1) k bytes left f at (omega arith) rest)
  where
    go : (c : Bool) → in_range ps i ≡ c → fill ≡ before ++ (if c then x ∷ picked ps (i + 1) left else picked ps (i + 1) left)
        → (fill ≡ before ++ x ∷ picked ps (i + 1) left → filled ps fill (i + 1) (k + 1) bytes ≡ left) → (fill ≡ before ++ picked ps (i + 1) left → filled ps fill (i + 1) k bytes ≡ left)
        → (if c then get_or fill (k % length fill) 0 ∷ filled ps fill (i + 1) (k + 1) bytes else b ∷ filled ps fill (i + 1) k bytes) ≡ x ∷ left
    go true e f inside outside =
        ap (λ (y : ℕ). y ∷ filled ps fill (i + 1) (k + 1) bytes) (ap (λ (l : List ℕ). get_or l (k % length l) 0) f ∙ read_at before (picked ps (i + 1) left) x k at)
        ∙ ap (λ (l : List ℕ). x ∷ l) (inside f)
    go false e f inside outside =
        ap (λ (y : ℕ). y ∷ filled ps fill (i + 1) k bytes) (sym (agree_first ps i b x bytes left agree e)) ∙ ap (λ (l : List ℕ). x ∷ l) (outside f)

none_picked : (ps : List Piece) (i : ℕ) (bytes left : List ℕ) → picked ps i left ≡ [] → length left ≡ length bytes → AgreeOutside ps i bytes left → bytes ≡ left
none_picked ps i [] [] none long agree = refl
none_picked ps i [] (x ∷ left) none long agree = absurd (omega arith)
none_picked ps i (b ∷ bytes) [] none long agree = absurd (omega arith)
none_picked ps i (b ∷ bytes) (x ∷ left) none long agree =
    go (in_range ps i) refl none (λ f. none_picked ps (i + 1) bytes left f (omega arith) (agree_rest ps i b x bytes left agree))
  where
    go : (c : Bool) → in_range ps i ≡ c → (if c then x ∷ picked ps (i + 1) left else picked ps (i + 1) left) ≡ [] → (picked ps (i + 1) left ≡ [] → bytes ≡ left) → b ∷ bytes ≡ x ∷ left
    go true e f rest = absurd cc
    go false e f rest = ap (λ (y : ℕ). y ∷ bytes) (sym (agree_first ps i b x bytes left agree e)) ∙ ap (λ (l : List ℕ). x ∷ l) (rest f)

pub fill_of : (v : Device) (left : List ℕ) → IsCrashOf v left → AllByRecursion (λ b. b < 256) left → (fill : List ℕ) × AllByRecursion (λ b. b < 256) fill × (crashed v fill ≡ left)
fill_of v left crash all =
    let ps = v.in_flight ++ v.failed in (picked ps 0 left, picked_bytes ps 0 left all, go (picked ps 0 left) refl)
  where
    agree : AgreeOutside (v.in_flight ++ v.failed) 0 v.disk left
    agree n out = crash.same n (λ h. out (subst (InRange (v.in_flight ++ v.failed)) (let e : n ≡ 0 + n = omega arith in e) h))

    go : (fill : List ℕ) → picked (v.in_flight ++ v.failed) 0 left ≡ fill → crashed v fill ≡ left
    go [] e = none_picked (v.in_flight ++ v.failed) 0 v.disk left e crash.size agree
    go (x ∷ fill) e = fill_back (v.in_flight ++ v.failed) (x ∷ fill) [] 0 0 v.disk left (sym e) refl crash.size agree
