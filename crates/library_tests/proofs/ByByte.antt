-- Accesses over a list of bytes.
use Rattle.std.proofs.Common.{◌≡◌, ℕ, suc, zero, ◌+◌, ◌%◌, ◌^◌, ◌<◌, ◌≤◌, Bool, true, false, cond, List, [], ◌∷◌, length, refl, sym, ap, subst, ◌∙◌, arith, inl, inr}
use Rattle.std.specs.Prelude.{◌==◌, ◌≢◌, nat_lt, slice_index, slice_set, slice_get, Option, Some, None, option_map, Ok}
use Rattle.std.proofs.lemmas.Option.{slice_get-get_or, slice_get_past}
use Rattle.std.proofs.lemmas.List.{get_or-set_same}
use Rattle.std.proofs.lemmas.Bool.Decides.{nat_tests, eqb_tells}
use Rattle.std.proofs.Math.ListN.{length-set}
use Rattle.std.specs.FinMap.{get, insert}
use Rattle.memory_model.specs.Memory.{Cell}
use Rattle.memory_model.specs.Bytes.{value_in, put_in}
use Rattle.memory_model.proofs.Memories.{get-memory_of, same_memory, get-insert}
use Rattle.memory_model.specs.Access.{to_read, with_byte, put_bytes, range_fault, value_at, loaded, access_fault, or_fault, size, stored, low_bytes}
use Rattle.memory_model.specs.declared.access.Rights.{Rights}
use Rattle.memory_model.specs.declared.access.Width.{Width}
use Rattle.memory_model.specs.declared.access.Width.TheVariants as width
use Rattle.memory_model.specs.declared.access.BusFault.TheVariants.{Unmapped}
use Rattle.library_tests.specs.FlatMemory.{cell_of, memory_of_bytes}

-- what stands at any address
get-any : (bytes : List ℕ) (q : ℕ) → get (memory_of_bytes bytes) q ≡ cond (nat_lt q (2 ^ 32)) (option_map cell_of (slice_get bytes q)) None
get-any bytes q = get-memory_of (λ a. option_map cell_of (slice_get bytes a)) q

-- below the length a byte with all rights
get-here : (bytes : List ℕ) (q : ℕ) → q < length bytes → q < 2 ^ 32 → get (memory_of_bytes bytes) q ≡ Some (cell_of (slice_index bytes q))
get-here bytes q h k = get-any bytes q ∙ below ∙ ap (option_map cell_of) (slice_get-get_or bytes q 0 h)
  where
    below : cond (nat_lt q (2 ^ 32)) (option_map cell_of (slice_get bytes q)) None ≡ option_map cell_of (slice_get bytes q)
    below = grind (arith, nat_tests)

-- and nothing from there on
get-past : (bytes : List ℕ) (q : ℕ) → length bytes ≤ q → get (memory_of_bytes bytes) q ≡ None
get-past bytes q h = get-any bytes q ∙ ap (λ (c : Option ℕ). cond (nat_lt q (2 ^ 32)) (option_map cell_of c) None) (slice_get_past bytes q h) ∙ both (nat_lt q (2 ^ 32))
  where
    both : (b : Bool) → cond {A = Option Cell} b None None ≡ None
    both true = refl
    both false = refl

-- a write leaves the other places as they are
same_get : (bytes : List ℕ) (j b q : ℕ) → q ≢ j → slice_get (slice_set bytes j b) q ≡ slice_get bytes q
same_get [] j b q other = refl
same_get (x ∷ xs) zero b zero other = absurd (other refl)
same_get (x ∷ xs) zero b (suc q) other = refl
same_get (x ∷ xs) (suc j) b zero other = refl
same_get (x ∷ xs) (suc j) b (suc q) other = same_get xs j b q (λ (e : q ≡ j). other (ap suc e))

-- a byte that is put into the memory is put into the list
one : (bytes : List ℕ) (q b : ℕ) → q < length bytes → q < 2 ^ 32 → with_byte (memory_of_bytes bytes) q b (get (memory_of_bytes bytes) q) ≡ memory_of_bytes (slice_set bytes q b)
one bytes q b h k = rw (get-here bytes q h k) (same_memory _ _ alike)
  where
    alike : (p : ℕ) → get (insert (memory_of_bytes bytes) q (cell_of b)) p ≡ get (memory_of_bytes (slice_set bytes q b)) p
    alike p =
        get-insert (memory_of_bytes bytes) q (cell_of b) p
        ∙ elim (eqb_tells p q) [
          | inl f ↦ rw f.0 (ap (λ (x : ℕ). Some (cell_of x)) (sym (get_or-set_same bytes q b 0 h)) ∙ sym (get-here (slice_set bytes q b) q (subst (λ n. q < n) (sym (length-set bytes q b)) h) k) ∙ ap (get (memory_of_bytes (slice_set bytes q b))) (sym f.1))
          | inr f ↦ rw f.0 (get-any bytes p ∙ ap (λ (c : Option ℕ). cond (nat_lt p (2 ^ 32)) (option_map cell_of c) None) (sym (same_get bytes q b p f.1)) ∙ sym (get-any (slice_set bytes q b) p))
        ]

-- within the list no right is lacking
range-none : (right : Rights → Bool) (bytes : List ℕ) (at n : ℕ) → right (record { read = true; write = true; execute = true }) ≡ true → at + n ≤ length bytes → length bytes < 2 ^ 32 → range_fault right (memory_of_bytes bytes) at n ≡ None
range-none right bytes at zero r h k = refl
range-none right bytes at (suc n) r h k =
    rw (get-here bytes at (omega arith) (omega arith), r) (range-none right bytes (at + 1) n r (omega arith) k)

-- past its end the first byte is not there
range-past : (right : Rights → Bool) (bytes : List ℕ) (at n : ℕ) → length bytes ≤ at → range_fault right (memory_of_bytes bytes) at (suc n) ≡ Some Unmapped
range-past right bytes at n h = rw (get-past bytes at h) refl

-- the memory spells what the list spells
value_at-here : (bytes : List ℕ) (at n : ℕ) → at + n ≤ length bytes → length bytes < 2 ^ 32 → value_at (memory_of_bytes bytes) at n ≡ value_in bytes at n
value_at-here bytes at zero h k = refl
value_at-here bytes at (suc n) h k = rw (get-here bytes at (omega arith) (omega arith), value_at-here bytes (at + 1) n (omega arith) k) refl

-- bytes that are put into the memory are put into the list
put-here : (bs bytes : List ℕ) (at : ℕ) → at + length bs ≤ length bytes → length bytes < 2 ^ 32 → put_bytes (memory_of_bytes bytes) at bs ≡ memory_of_bytes (put_in bytes at bs)
put-here [] bytes at h k = refl
put-here (b ∷ bs) bytes at h k =
    let len : length (slice_set bytes at b) ≡ length bytes = length-set bytes at b in
    let first : at < length bytes = omega arith in
    let rest : at + 1 + length bs ≤ length (slice_set bytes at b) = omega arith in
    ap (λ m. put_bytes m (at + 1) bs) (one bytes at b first (omega arith)) ∙ put-here bs (slice_set bytes at b) (at + 1) rest (omega arith)

-- an aligned access that begins within 64 bytes ends there
pub room : (at : ℕ) (width : Width) → (at % size width == 0) ≡ true → at < 64 → at + size width ≤ 64
room at width.Byte e h = omega arith
room at width.Half e h = let f : at % 2 ≡ 0 = grind (arith, nat_tests) in omega arith
room at width.Word e h = let f : at % 4 ≡ 0 = grind (arith, nat_tests) in omega arith

-- so an aligned access is refused exactly where it begins past the end of the list
pub fault-here : (right : Rights → Bool) (bytes : List ℕ) (at : ℕ) (width : Width) → right (record { read = true; write = true; execute = true }) ≡ true → length bytes ≡ 64 → at < 64 → (at % size width == 0) ≡ true → access_fault right (memory_of_bytes bytes) at width ≡ None
fault-here right bytes at width r len h e = let fits : at + size width ≤ 64 = room at width e h in rw e (range-none right bytes at (size width) r (omega arith) (omega arith))

pub fault-past : (right : Rights → Bool) (bytes : List ℕ) (at : ℕ) (width : Width) → length bytes ≡ 64 → 64 ≤ at → (at % size width == 0) ≡ true → access_fault right (memory_of_bytes bytes) at width ≡ Some Unmapped
fault-past right bytes at width.Byte len h e = rw e (range-past right bytes at 0 (omega arith))
fault-past right bytes at width.Half len h e = rw e (range-past right bytes at 1 (omega arith))
fault-past right bytes at width.Word len h e = rw e (range-past right bytes at 3 (omega arith))

-- what a load there answers
pub loaded-here : (bytes : List ℕ) (at : ℕ) (width : Width) → length bytes ≡ 64 → at < 64 → (at % size width == 0) ≡ true → loaded (memory_of_bytes bytes) at width ≡ Ok (value_in bytes at (size width))
loaded-here bytes at width len h e =
    let fits : at + size width ≤ 64 = room at width e h in
    ap (λ f. or_fault f (value_at (memory_of_bytes bytes) at (size width))) (fault-here to_read bytes at width refl len h e) ∙ ap (λ (v : ℕ). Ok v) (value_at-here bytes at (size width) (omega arith) (omega arith))

length-low : (width : Width) (value : ℕ) → length (low_bytes (size width) value) ≡ size width
length-low width.Byte value = refl
length-low width.Half value = refl
length-low width.Word value = refl

-- what a store there leaves
pub stored-here : (bytes : List ℕ) (at : ℕ) (width : Width) (value : ℕ) → length bytes ≡ 64 → at < 64 → (at % size width == 0) ≡ true → stored (memory_of_bytes bytes) at width value ≡ memory_of_bytes (put_in bytes at (low_bytes (size width) value))
stored-here bytes at width value len h e =
    let fits : at + size width ≤ 64 = room at width e h in
    let count : length (low_bytes (size width) value) ≡ size width = length-low width value in
    put-here (low_bytes (size width) value) bytes at (omega arith) (omega arith)
