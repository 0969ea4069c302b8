-- The filling of ranges, byte by byte.
use Rattle.std.proofs.Common.{◌≡◌, ℕ, zero, suc, ◌+◌, ◌<◌, ◌≤◌, ◌%◌, Bool, true, false, List, [], ◌∷◌, ◌++◌, length, get_or, take, drop, set, refl, sym, ap, ◌∙◌, append_assoc, arith}
use Rattle.std.specs.Prelude.{◌||◌, ◌&&◌, nat_le, nat_lt, if◌then◌else◌}
use Rattle.std.proofs.Math.Bool.{or_assoc}
use Rattle.std.proofs.lemmas.List.{take-append-drop, length-drop, drop_more, take_more, take_more_set, drop-set-lt}
use Rattle.disk_model.specs.declared.change.Piece.{Piece}
use Rattle.simdisk.specs.Room.{in_range, filled}

-- a place lies in the range of a piece of two lists
pub in_both : (ps qs : List Piece) (i : ℕ) → in_range (ps ++ qs) i ≡ (in_range ps i || in_range qs i)
in_both [] qs i = refl
in_both (p ∷ ps) qs i =
    ap (λ (b : Bool). (nat_le p.at i && nat_lt i (p.at + length p.bytes)) || b) (in_both ps qs i)
    ∙ sym (or_assoc (nat_le p.at i && nat_lt i (p.at + length p.bytes)) (in_range ps i) (in_range qs i))

module _ (ps : List Piece) (fill : List ℕ) (i k : ℕ) (bytes total : List ℕ) (lt : i < length bytes)
    (so_far : take i bytes ++ filled ps fill i k (drop i bytes) ≡ total) where
  -- a byte in a range is the fill's next one
  pub fill_byte : (b : ℕ) → b ≡ get_or fill (k % length fill) 0 → in_range ps i ≡ true
      → take (i + 1) (set bytes i b) ++ filled ps fill (i + 1) (k + 1) (drop (i + 1) (set bytes i b)) ≡ total
  fill_byte b is inside =
      ap (λ (l : List ℕ). l ++ filled ps fill (i + 1) (k + 1) (drop (i + 1) (set bytes i b))) (take_more_set bytes i b lt)
      ∙ ap (λ (l : List ℕ). take i bytes ++ b ∷ [] ++ filled ps fill (i + 1) (k + 1) l) (drop-set-lt (i + 1) bytes i b (omega arith))
      ∙ append_assoc (take i bytes) (b ∷ []) (filled ps fill (i + 1) (k + 1) (drop (i + 1) bytes))
      ∙ ap (λ (x : ℕ). take i bytes ++ (x ∷ filled ps fill (i + 1) (k + 1) (drop (i + 1) bytes))) is
      ∙ sym (ap (λ (c : Bool). take i bytes ++ (if c then get_or fill (k % length fill) 0 ∷ filled ps fill (i + 1) (k + 1) (drop (i + 1) bytes) else get_or bytes i 0 ∷ filled ps fill (i + 1) k (drop (i + 1) bytes))) inside)
      ∙ sym (ap (λ (l : List ℕ). take i bytes ++ filled ps fill i k l) (drop_more bytes i 0 lt))
      ∙ so_far

  -- another byte stays
  pub keep_byte : in_range ps i ≡ false → take (i + 1) bytes ++ filled ps fill (i + 1) k (drop (i + 1) bytes) ≡ total
  keep_byte outside =
      ap (λ (l : List ℕ). l ++ filled ps fill (i + 1) k (drop (i + 1) bytes)) (take_more bytes i 0 lt)
      ∙ append_assoc (take i bytes) (get_or bytes i 0 ∷ []) (filled ps fill (i + 1) k (drop (i + 1) bytes))
      ∙ sym (ap (λ (c : Bool). take i bytes ++ (if c then get_or fill (k % length fill) 0 ∷ filled ps fill (i + 1) (k + 1) (drop (i + 1) bytes) else get_or bytes i 0 ∷ filled ps fill (i + 1) k (drop (i + 1) bytes))) outside)
      ∙ sym (ap (λ (l : List ℕ). take i bytes ++ filled ps fill i k l) (drop_more bytes i 0 lt))
      ∙ so_far

-- the same, for bytes and a count that are equal to those
pub filled_on : (ps : List Piece) (fill : List ℕ) (i k m : ℕ) (bytes next total : List ℕ) → next ≡ bytes → m ≡ k
    → take (i + 1) bytes ++ filled ps fill (i + 1) k (drop (i + 1) bytes) ≡ total → take (i + 1) next ++ filled ps fill (i + 1) m (drop (i + 1) next) ≡ total
filled_on ps fill i k m bytes next total e f h =
    ap (λ (l : List ℕ). take (i + 1) l ++ filled ps fill (i + 1) m (drop (i + 1) l)) e
    ∙ ap (λ (n : ℕ). take (i + 1) bytes ++ filled ps fill (i + 1) n (drop (i + 1) bytes)) f ∙ h

-- ---- places before and after all ranges

-- no place before the n-th is in a range
pub filled_prefix : (ps : List Piece) (fill : List ℕ) (i n : ℕ) (bytes : List ℕ) → ((m : ℕ) → m < n → in_range ps (i + m) ≡ false)
    → take n bytes ++ filled ps fill (i + n) 0 (drop n bytes) ≡ filled ps fill i 0 bytes
filled_prefix ps fill i zero bytes outside = ap (λ (j : ℕ). filled ps fill j 0 bytes) (let e : i + 0 ≡ i = omega arith in e)
filled_prefix ps fill i (suc n) [] outside = refl
filled_prefix ps fill i (suc n) (b ∷ bytes) outside =
    let rest = filled_prefix ps fill (i + 1) n bytes (λ m lt. ap (in_range ps) (let e : i + 1 + m ≡ i + suc m = omega arith in e) ∙ outside (suc m) (omega arith)) in
    let here : in_range ps i ≡ false = ap (in_range ps) (let e : i ≡ i + 0 = omega arith in e) ∙ outside 0 (omega arith) in
    ap (λ (j : ℕ). b ∷ (take n bytes ++ filled ps fill j 0 (drop n bytes))) (let e : i + suc n ≡ i + 1 + n = omega arith in e)
    ∙ ap (λ (l : List ℕ). b ∷ l) rest
    ∙ sym (ap (λ (c : Bool). if c then get_or fill (0 % length fill) 0 ∷ filled ps fill (i + 1) 1 bytes else b ∷ filled ps fill (i + 1) 0 bytes) here)

-- no place of these bytes is in a range
pub filled_none : (ps : List Piece) (fill : List ℕ) (i k : ℕ) (bytes : List ℕ) → ((m : ℕ) → m < length bytes → in_range ps (i + m) ≡ false) → filled ps fill i k bytes ≡ bytes
filled_none ps fill i k [] outside = refl
filled_none ps fill i k (b ∷ bytes) outside =
    ap (λ (c : Bool). if c then get_or fill (k % length fill) 0 ∷ filled ps fill (i + 1) (k + 1) bytes else b ∷ filled ps fill (i + 1) k bytes)
    (ap (in_range ps) (let e : i ≡ i + 0 = omega arith in e) ∙ outside 0 (omega arith))
    ∙ ap (λ (l : List ℕ). b ∷ l) (filled_none ps fill (i + 1) k bytes (λ m lt. ap (in_range ps) (let e : i + 1 + m ≡ i + suc m = omega arith in e) ∙ outside (suc m) (omega arith)))

-- the same where the bytes before place i have been filled
pub filled_end : (ps : List Piece) (fill : List ℕ) (i k : ℕ) (bytes total : List ℕ) → ((n : ℕ) → i ≤ n → n < length bytes → in_range ps n ≡ false)
    → take i bytes ++ filled ps fill i k (drop i bytes) ≡ total → bytes ≡ total
filled_end ps fill i k bytes total outside so_far =
    sym (take-append-drop i bytes)
    ∙ ap (λ (l : List ℕ). take i bytes ++ l) (sym (filled_none ps fill i k (drop i bytes) (λ m lt. outside (i + m) (omega arith) (omega (arith, length-drop i bytes)))))
    ∙ so_far

-- neither list has a range there
pub in_neither : (ps qs : List Piece) (i : ℕ) → in_range ps i ≡ false → in_range qs i ≡ false → in_range (ps ++ qs) i ≡ false
in_neither ps qs i a b = in_both ps qs i ∙ ap (λ (c : Bool). c || in_range qs i) a ∙ b
