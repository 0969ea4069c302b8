-- Ranges of addresses, a stretch at a time.
use Rattle.std.proofs.Common.{◌≡◌, ℕ, suc, zero, ◌+◌, ◌-◌, ◌%◌, ◌^◌, ◌<◌, ◌≤◌, Bool, true, false, cond, List, [], ◌∷◌, ◌++◌, length, drop, take, refl, sym, ap, ◌∙◌, arith, inl, inr, append_assoc, length-append}
use Rattle.std.specs.Prelude.{Option, Some, None, Result, Ok, Err, OnOk, option_map, ◌==◌, ◌≢◌, slice_index}
use Rattle.std.specs.FinMap.{get}
use Rattle.std.proofs.lemmas.List.{length-take-le, take-append-drop, drop-drop, length-drop}
use Rattle.std.proofs.lemmas.Bool.Decides.{eqb_tells, nat_tests}
use Rattle.memory_model.specs.Memory.{Memory, Cell}
use Rattle.memory_model.specs.Access.{access_fault, fault_at, range_fault, byte_of, bytes_at, cell_with, or_fault, stored, to_write, with_byte, put_bytes}
use Rattle.memory_model.specs.declared.access.Rights.{Rights}
use Rattle.memory_model.specs.declared.access.BusFault.{BusFault}
use Rattle.memory_model.specs.declared.access.BusFault.TheVariants.{Misaligned, NoRight, Unmapped}
use Rattle.memory_model.specs.declared.access.Width.TheVariants.{Byte}
use Rattle.memory_model.proofs.Memories.{get-insert}
use Rattle.memory.specs.Access.{Stand}
use Rattle.memory.proofs.Ranges.{fault_at-None, range_fault-put_bytes}

one_more : (k n : ℕ) → suc k + n ≡ suc (k + n)
one_more k n = omega arith

stand-first : (m : Memory) (at b : ℕ) (bytes : List ℕ) (rights : Rights) → Stand m at (b ∷ bytes) rights → get m at ≡ Some (cell_with rights b)
stand-first m at b bytes rights stand = ap (get m) (omega arith) ∙ stand 0 (omega arith)

stand-rest : (m : Memory) (at b : ℕ) (bytes : List ℕ) (rights : Rights) → Stand m at (b ∷ bytes) rights → Stand m (at + 1) bytes rights
stand-rest m at b bytes rights stand = λ j h.
    let place : at + 1 + j ≡ at + suc j = omega arith in
    ap (get m) place ∙ stand (suc j) (omega arith)

-- bytes that may be used do not decide, those after them do
pub range_fault-stand : (right : Rights → Bool) (m : Memory) (at : ℕ) (bytes : List ℕ) (rights : Rights) (n : ℕ) → Stand m at bytes rights → right rights ≡ true → range_fault right m at (length bytes + n) ≡ range_fault right m (at + length bytes) n
range_fault-stand right m at [] rights n stand may =
    let place : at ≡ at + 0 = omega arith in
    let count : 0 + n ≡ n = omega arith in
    λ i. range_fault right m (place i) (count i)
range_fault-stand right m at (b ∷ bytes) rights n stand may =
    let rest : Option BusFault = range_fault right m (at + 1) (length bytes + n) in
    let place : at + 1 + length bytes ≡ at + suc (length bytes) = omega arith in
    ap (range_fault right m at) (one_more (length bytes) n)
    ∙ ap (λ c. fault_at right c rest) (stand-first m at b bytes rights stand)
    ∙ ap (λ t. cond t rest (Some NoRight)) may
    ∙ range_fault-stand right m (at + 1) bytes rights n (stand-rest m at b bytes rights stand) may
    ∙ ap (λ a. range_fault right m a n) place

pub bytes_at-stand : (m : Memory) (at : ℕ) (bytes : List ℕ) (rights : Rights) (n : ℕ) → Stand m at bytes rights → bytes_at m at (length bytes + n) ≡ bytes ++ bytes_at m (at + length bytes) n
bytes_at-stand m at [] rights n stand =
    let place : at ≡ at + 0 = omega arith in
    let count : 0 + n ≡ n = omega arith in
    λ i. bytes_at m (place i) (count i)
bytes_at-stand m at (b ∷ bytes) rights n stand =
    let rest : List ℕ = bytes_at m (at + 1) (length bytes + n) in
    let place : at + 1 + length bytes ≡ at + suc (length bytes) = omega arith in
    ap (bytes_at m at) (one_more (length bytes) n)
    ∙ ap (λ c. byte_of c ∷ rest) (stand-first m at b bytes rights stand)
    ∙ ap (λ l. b ∷ l) (bytes_at-stand m (at + 1) bytes rights n (stand-rest m at b bytes rights stand) ∙ ap (λ a. bytes ++ bytes_at m a n) place)

-- a first byte that may not be used decides
pub range_fault-refused : (right : Rights → Bool) (m : Memory) (at : ℕ) (bytes : List ℕ) (rights : Rights) (n : ℕ) → Stand m at bytes rights → 0 < length bytes → right rights ≡ false → 0 < n → range_fault right m at n ≡ Some NoRight
range_fault-refused right m at bytes rights zero stand some not h = absurd (omega arith)
range_fault-refused right m at [] rights (suc n) stand some not h = absurd (omega arith)
range_fault-refused right m at (b ∷ bytes) rights (suc n) stand some not h =
    let rest : Option BusFault = range_fault right m (at + 1) n in
    ap (λ c. fault_at right c rest) (stand-first m at b bytes rights stand) ∙ ap (λ t. cond t rest (Some NoRight)) not

pub range_fault-missing : (right : Rights → Bool) (m : Memory) (at n : ℕ) → get m at ≡ None → 0 < n → range_fault right m at n ≡ Some Unmapped
range_fault-missing right m at zero missing h = absurd (omega arith)
range_fault-missing right m at (suc n) missing h = ap (λ c. fault_at right c (range_fault right m (at + 1) n)) missing

-- a range that may be used has a first byte and a rest that may
fault_at-first : (right : Rights → Bool) (c : Option Cell) (rest : Option BusFault) → fault_at right c rest ≡ None → fault_at right c None ≡ None
fault_at-first right None rest e = absurd cc
fault_at-first right (Some cell) rest e = by (right cell.rights) e
  where
    by : (b : Bool) → cond b rest (Some NoRight) ≡ None → cond b None (Some NoRight) ≡ None
    by true e = refl
    by false e = absurd cc

pub range_fault-first : (right : Rights → Bool) (m : Memory) (at n : ℕ) → range_fault right m at n ≡ None → 0 < n → range_fault right m at 1 ≡ None
range_fault-first right m at zero e h = absurd (omega arith)
range_fault-first right m at (suc n) e h = fault_at-first right (get m at) _ e

pub range_fault-rest : (right : Rights → Bool) (m : Memory) (at k n : ℕ) → range_fault right m at (k + n) ≡ None → range_fault right m (at + k) n ≡ None
range_fault-rest right m at zero n e =
    let place : at + 0 ≡ at = omega arith in
    let count : n ≡ 0 + n = omega arith in
    (λ i. range_fault right m (place i) (count i)) ∙ e
range_fault-rest right m at (suc k) n e =
    let place : at + suc k ≡ at + 1 + k = omega arith in
    ap (λ a. range_fault right m a n) place
    ∙ range_fault-rest right m (at + 1) k n (fault_at-None right (get m at) _ (sym (ap (range_fault right m at) (one_more k n)) ∙ e))

-- bytes are put one part after another
pub put_bytes-append : (m : Memory) (at : ℕ) (xs ys : List ℕ) → put_bytes m at (xs ++ ys) ≡ put_bytes (put_bytes m at xs) (at + length xs) ys
put_bytes-append m at [] ys = ap (λ a. put_bytes m a ys) (omega arith)
put_bytes-append m at (x ∷ xs) ys =
    let n : Memory = with_byte m at x (get m at) in
    let place : at + 1 + length xs ≡ at + suc (length xs) = omega arith in
    put_bytes-append n (at + 1) xs ys ∙ ap (λ a. put_bytes (put_bytes n (at + 1) xs) a ys) place

-- a cell with another byte
abbrev pub with_value : ℕ → Option Cell → Option Cell
with_value b c = option_map (λ (x : Cell). cell_with x.rights b) c

get-with_byte : (m : Memory) (k b q : ℕ) (c : Option Cell) → get m k ≡ c → get (with_byte m k b c) q ≡ cond (q == k) (with_value b c) (get m q)
get-with_byte m k b q None e = elim (eqb_tells q k) [ inl f ↦ rw f.0 (ap (get m) f.1 ∙ e) | inr f ↦ rw f.0 refl ]
get-with_byte m k b q (Some cell) e = get-insert m k (cell_with cell.rights b) q

with_byte-same : (m : Memory) (k b q : ℕ) → q ≡ k → get (with_byte m k b (get m k)) q ≡ with_value b (get m k)
with_byte-same m k b q e = get-with_byte m k b q (get m k) refl ∙ elim (eqb_tells q k) [ inl f ↦ rw f.0 refl | inr f ↦ absurd (f.1 e) ]

with_byte-other : (m : Memory) (k b q : ℕ) → q ≢ k → get (with_byte m k b (get m k)) q ≡ get m q
with_byte-other m k b q e = get-with_byte m k b q (get m k) refl ∙ elim (eqb_tells q k) [ inl f ↦ absurd (e f.1) | inr f ↦ rw f.0 refl ]

-- what stands before the bytes that are put, and past them
pub put_bytes-before : (m : Memory) (at : ℕ) (bytes : List ℕ) (q : ℕ) → q < at → get (put_bytes m at bytes) q ≡ get m q
put_bytes-before m at [] q h = refl
put_bytes-before m at (b ∷ bytes) q h = put_bytes-before (with_byte m at b (get m at)) (at + 1) bytes q (omega arith) ∙ with_byte-other m at b q (λ e. omega arith)

pub put_bytes-past : (m : Memory) (at : ℕ) (bytes : List ℕ) (q : ℕ) → at + length bytes ≤ q → get (put_bytes m at bytes) q ≡ get m q
put_bytes-past m at [] q h = refl
put_bytes-past m at (b ∷ bytes) q h = put_bytes-past (with_byte m at b (get m at)) (at + 1) bytes q (omega arith) ∙ with_byte-other m at b q (λ e. omega arith)

-- what stands where they are put
pub put_bytes-within : (m : Memory) (at : ℕ) (bytes : List ℕ) (j : ℕ) → j < length bytes → get (put_bytes m at bytes) (at + j) ≡ with_value (slice_index bytes j) (get m (at + j))
put_bytes-within m at [] j h = absurd (omega arith)
put_bytes-within m at (b ∷ bytes) zero h =
    let place : at + 0 ≡ at = omega arith in
    put_bytes-before (with_byte m at b (get m at)) (at + 1) bytes (at + 0) (omega arith) ∙ with_byte-same m at b (at + 0) place ∙ ap (λ a. with_value b (get m a)) (sym place)
put_bytes-within m at (b ∷ bytes) (suc j) h =
    let place : at + suc j ≡ at + 1 + j = omega arith in
    ap (get (put_bytes m at (b ∷ bytes))) place
    ∙ put_bytes-within (with_byte m at b (get m at)) (at + 1) bytes j (omega arith)
    ∙ ap (with_value (slice_index bytes j)) (with_byte-other m at b (at + 1 + j) (λ e. omega arith) ∙ ap (get m) (sym place))

-- one stretch more of a loop over a range: k bytes after the first ones that are done
module _ (m : Memory) (at done n q : ℕ) (bytes : List ℕ) (rights : Rights) (place : q ≡ at + done) (stand : Stand m q bytes rights) (fits : length bytes ≤ n - done) where
  next : q + length bytes ≡ at + (done + length bytes)
  next = omega arith

  left : n - done ≡ length bytes + (n - (done + length bytes))
  left = omega arith

  pub fault-step : (right : Rights → Bool) → right rights ≡ true → range_fault right m (at + (done + length bytes)) (n - (done + length bytes)) ≡ range_fault right m (at + done) (n - done)
  fault-step right may =
      ap (λ a. range_fault right m a (n - (done + length bytes))) (sym next) ∙ sym (range_fault-stand right m q bytes rights (n - (done + length bytes)) stand may)
      ∙ (λ i. range_fault right m (place i) (sym left i))

  pub copy-step : (before after : List ℕ) → length before ≡ done → after ≡ before ++ bytes → after ++ bytes_at m (at + length after) (n - length after) ≡ before ++ bytes_at m (at + length before) (n - length before)
  copy-step before after len grown =
      let size : length after ≡ done + length bytes = ap length grown ∙ length-append before bytes ∙ ap (λ l. l + length bytes) len in
      (λ i. grown i ++ bytes_at m (at + size i) (n - size i))
      ∙ append_assoc before bytes (bytes_at m (at + (done + length bytes)) (n - (done + length bytes)))
      ∙ ap (λ l. before ++ l) (
      ap (λ a. bytes ++ bytes_at m a (n - (done + length bytes))) (sym next) ∙ sym (bytes_at-stand m q bytes rights (n - (done + length bytes)) stand)
      ∙ (λ i. bytes_at m (place i) (sym left i)) ∙ (λ i. bytes_at m (at + sym len i) (n - sym len i)))

-- bytes that are put one part after another
module _ (m new : Memory) (at done k : ℕ) (bytes rest : List ℕ) (is : rest ≡ drop done bytes) (fits : k ≤ length rest) (put : new ≡ put_bytes m (at + done) (take k rest)) where
  pub put-step : put_bytes new (at + (done + k)) (drop (done + k) bytes) ≡ put_bytes m (at + done) (drop done bytes)
  put-step =
      let next : at + (done + k) ≡ at + done + length (take k rest) = omega (arith, length-take-le k rest fits) in
      (λ i. put_bytes (put i) (next i) (sym (drop-drop k done bytes) i))
      ∙ ap (λ l. put_bytes (put_bytes m (at + done) (take k rest)) (at + done + length (take k rest)) (drop k l)) (sym is)
      ∙ sym (put_bytes-append m (at + done) (take k rest) (drop k rest))
      ∙ ap (put_bytes m (at + done)) (take-append-drop k rest ∙ is)

  pub may-step : (right : Rights → Bool) → range_fault right m (at + done) (length bytes - done) ≡ None → range_fault right new (at + (done + k)) (length bytes - (done + k)) ≡ None
  may-step right may =
      let size : length rest ≡ length bytes - done = ap length is ∙ length-drop done bytes in
      let left : k + (length bytes - (done + k)) ≡ length bytes - done = omega arith in
      let next : at + (done + k) ≡ at + done + k = omega arith in
      ap (λ (z : Memory). range_fault right z (at + (done + k)) (length bytes - (done + k))) put
      ∙ range_fault-put_bytes right (take k rest) m (at + done) (at + (done + k)) (length bytes - (done + k))
      ∙ ap (λ a. range_fault right m a (length bytes - (done + k))) next
      ∙ range_fault-rest right m (at + done) k (length bytes - (done + k)) (ap (range_fault right m (at + done)) left ∙ may)

-- a page is at each address that may be used
pub not-missing : (right : Rights → Bool) (m : Memory) (at done n q : ℕ) → range_fault right m at n ≡ None → done < n → q ≡ at + done → get m q ≡ None → ⊥
not-missing right m at done n q may h place missing =
    let left : done + (n - done) ≡ n = omega arith in
    clash (sym (range_fault-missing right m q (n - done) missing (omega arith)) ∙ ap (λ a. range_fault right m a (n - done)) place
    ∙ range_fault-rest right m at done (n - done) (ap (range_fault right m at) left ∙ may))
  where
    clash : {f : BusFault} → Some f ≡ None → ⊥
    clash e = cc

-- a stored byte is put
pub one-byte : (old m new : Memory) (at v : ℕ) (bytes : List ℕ) (r : Result (Unit {0}) BusFault) → 0 < length bytes → v % 2 ^ 8 ≡ slice_index bytes 0 → m ≡ old → range_fault to_write old at 1 ≡ None → r ≡ or_fault (access_fault to_write m at Byte) tt
    → OnOk r (new ≡ stored m at Byte v) → new ≡ put_bytes old at (take 1 bytes)
one-byte old m new at v [] r some byte same may answer ok = absurd (omega arith)
one-byte old m new at v (b ∷ bytes) r some byte same may answer ok = done r (answer ∙ ap (λ f. or_fault f tt) fine) ok ∙ ap (λ x. put_bytes m at (x ∷ [])) byte ∙ ap (λ (z : Memory). put_bytes z at (b ∷ [])) same
  where
    fine : access_fault to_write m at Byte ≡ None
    fine = ap (λ t. cond t (range_fault to_write m at 1) (Some Misaligned)) aligned ∙ ap (λ (z : Memory). range_fault to_write z at 1) same ∙ may
      where
        aligned : (at % 1 == 0) ≡ true
        aligned = grind (arith, nat_tests)

    done : (r : Result (Unit {0}) BusFault) → r ≡ Ok tt → OnOk r (new ≡ stored m at Byte v) → new ≡ stored m at Byte v
    done (Ok u) e f = f
    done (Err g) e f = cc
