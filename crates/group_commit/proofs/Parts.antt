-- Bytes in pieces, piece by piece.
use Rattle.std.proofs.Common.{◌≡◌, ℕ, zero, suc, ◌+◌, ◌<◌, ◌≤◌, min, Bool, true, List, [], ◌∷◌, ◌++◌, length, take, drop, refl, sym, ap, ◌∙◌, append_assoc, arith}
use Rattle.std.specs.Prelude.{◌||◌, ◌&&◌, nat_le}
use Rattle.std.proofs.lemmas.Bool.{le-leb}
use Rattle.std.proofs.lemmas.List.{length-drop, length-take}
use Rattle.disk_model.specs.declared.change.Piece.{Piece}
use Rattle.disk_model.specs.Storage.{pieces, pieces_from}
use Rattle.disk_model.proofs.Lists.{least_of}
use Rattle.simdisk.specs.Room.{is_apart, AreSpaced}

abbrev pub part : ℕ → List ℕ → Piece
part at bytes = record { at = at; bytes = bytes }

-- the first argument of pieces_from may be any number that is at least the length
enough : (n m size at : ℕ) (bytes : List ℕ) → length bytes ≤ n → length bytes ≤ m → 1 ≤ size → pieces_from n size at bytes ≡ pieces_from m size at bytes
enough zero zero size at bytes a b some = refl
enough zero (suc m) size at [] a b some = refl
enough zero (suc m) size at (x ∷ bytes) a b some = absurd (omega arith)
enough (suc n) zero size at [] a b some = refl
enough (suc n) zero size at (x ∷ bytes) a b some = absurd (omega arith)
enough (suc n) (suc m) size at [] a b some = refl
enough (suc n) (suc m) size at (x ∷ bytes) a b some =
    ap (λ (l : List Piece). part at (take size (x ∷ bytes)) ∷ l)
    (enough n m size (at + size) (drop size (x ∷ bytes)) (omega (arith, length-drop size (x ∷ bytes))) (omega (arith, length-drop size (x ∷ bytes))) some)

first_piece : (size at : ℕ) (rest : List ℕ) → 0 < length rest → 1 ≤ size
    → pieces_from (length rest) size at rest ≡ part at (take size rest) ∷ pieces_from (length (drop size rest)) size (at + size) (drop size rest)
first_piece size at [] some one = absurd (omega arith)
first_piece size at (x ∷ rest) some one =
    ap (λ (k : ℕ). pieces_from k size at (x ∷ rest)) (let e : length (x ∷ rest) ≡ suc (length rest) = omega arith in e)
    ∙ ap (λ (l : List Piece). part at (take size (x ∷ rest)) ∷ l)
    (enough (length rest) (length (drop size (x ∷ rest))) size (at + size) (drop size (x ∷ rest)) (omega (arith, length-drop size (x ∷ rest))) (omega arith) one)

pub pieces_first : (at : ℕ) (bytes : List ℕ) → [] ++ pieces_from (length bytes) 4096 at bytes ≡ pieces at bytes
unfolding pieces
pieces_first at bytes = refl

-- one more piece
pub pieces_more : (size : ℕ) (out : List Piece) (at n : ℕ) (rest : List ℕ) (total : List Piece) → 0 < length rest → 1 ≤ size → n ≡ min (length rest) size
    → out ++ pieces_from (length rest) size at rest ≡ total → out ++ part at (take n rest) ∷ [] ++ pieces_from (length (drop n rest)) size (at + size) (drop n rest) ≡ total
pieces_more size out at n rest total some one e so_far =
    let m = least_of n size rest e in
    append_assoc out (part at (take n rest) ∷ []) (pieces_from (length (drop n rest)) size (at + size) (drop n rest))
    ∙ ap (λ (l : List ℕ). out ++ (part at l ∷ pieces_from (length (drop n rest)) size (at + size) (drop n rest))) m.0
    ∙ ap (λ (l : List ℕ). out ++ (part at (take size rest) ∷ pieces_from (length l) size (at + size) l)) m.1
    ∙ ap (λ (l : List Piece). out ++ l) (sym (first_piece size at rest some one)) ∙ so_far

-- ---- pieces lie on the disk, and apart

from_apart : (n size at : ℕ) (bytes : List ℕ) (from len : ℕ) → from + len ≤ at → is_apart (pieces_from n size at bytes) from len ≡ true
from_apart zero size at bytes from len le = refl
from_apart (suc n) size at [] from len le = refl
from_apart (suc n) size at (x ∷ bytes) from len le =
    ap (λ (b : Bool). (b || nat_le (at + length (take size (x ∷ bytes))) from) && is_apart (pieces_from n size (at + size) (drop size (x ∷ bytes))) from len) (le-leb (from + len) at le)
    ∙ from_apart n size (at + size) (drop size (x ∷ bytes)) from len (omega arith)

from_spaced : (n limit size at : ℕ) (bytes : List ℕ) → 1 ≤ size → size ≤ 4096 → (1 ≤ length bytes → at + length bytes ≤ limit) → AreSpaced limit (pieces_from n size at bytes)
from_spaced zero limit size at bytes one most room = tt
from_spaced (suc n) limit size at [] one most room = tt
from_spaced (suc n) limit size at (x ∷ bytes) one most room =
    let t = length-take size (x ∷ bytes) in let d = length-drop size (x ∷ bytes) in
    let within : at + length (x ∷ bytes) ≤ limit = room (omega arith) in (
      omega arith,
      omega arith,
      omega arith,
      from_apart n size (at + size) (drop size (x ∷ bytes)) at (length (take size (x ∷ bytes))) (omega arith),
      from_spaced n limit size (at + size) (drop size (x ∷ bytes)) one most (λ some. omega arith),
    )

pub pieces_spaced : (at : ℕ) (bytes : List ℕ) → at + length bytes ≤ 2097152 → AreSpaced 2097152 (pieces at bytes)
unfolding pieces
pieces_spaced at bytes room = from_spaced (length bytes) 2097152 4096 at bytes (omega arith) (omega arith) (λ some. room)
