-- Lists of pieces: a search by place, and pieces that lie on a disk.
use Rattle.std.proofs.Common.{◌≡◌, ℕ, zero, suc, ◌+◌, ◌<◌, ◌≤◌, Bool, true, false, List, [], ◌∷◌, ◌++◌, length, get_or, Option, Some, None, refl, sym, ap, subst, ◌∙◌, arith}
use Rattle.std.specs.Prelude.{◌==◌, ◌&&◌, nat_le, if◌then◌else◌, is_some, IfSome, IfNone}
use Rattle.std.proofs.lemmas.Bool.{false≢true, leb-true}
use Rattle.std.specs.List.{remove, HoldsAt, AllWithin}
use Rattle.std.specs.Option.{MatchOption}
use Rattle.std.proofs.lemmas.List.Recursion.{found_at, found_nowhere}
use Rattle.disk_model.specs.declared.change.Piece.{Piece}
use Rattle.disk_model.specs.Storage.{Device, piece_at, without}
use Rattle.simdisk.specs.Room.{LieOn, AreSpaced, has_room, is_apart}

pub without_none : (ps : List Piece) (at : ℕ) → piece_at ps at ≡ None → without ps at ≡ ps
without_none [] at e = refl
without_none (p ∷ ps) at e = go (p.at == at) e (without_none ps at)
  where
    go : (b : Bool) → (if b then Some p else piece_at ps at) ≡ None → (piece_at ps at ≡ None → without ps at ≡ ps) → (if b then ps else p ∷ without ps at) ≡ p ∷ ps
    go true e rec = absurd cc
    go false e rec = ap (λ (l : List Piece). p ∷ l) (rec e)

abbrev nothing : Piece
nothing = record { at = 0; bytes = [] }

-- whether a piece begins there
abbrev pub begins : ℕ → Piece → Bool
begins at p = p.at == at

without_at : (ps : List Piece) (at i : ℕ) (d : Piece) → i < length ps → ((k : ℕ) → k < i → begins at (get_or ps k d) ≡ false) → begins at (get_or ps i d) ≡ true → without ps at ≡ remove ps i
without_at [] at i d lt misses hit = absurd (omega arith)
without_at (p ∷ ps) at zero d lt misses hit = ap (λ (b : Bool). if b then ps else p ∷ without ps at) hit
without_at (p ∷ ps) at (suc i) d lt misses hit =
    ap (λ (b : Bool). if b then ps else p ∷ without ps at) (misses 0 (omega arith))
    ∙ ap (λ (l : List Piece). p ∷ l) (without_at ps at i d (omega arith) (λ k lt. misses (suc k) (omega arith)) hit)

-- what a search for the first piece that begins there tells
pub place_is : (ps : List Piece) (at : ℕ) (o : Option ℕ)
    → MatchOption o (AllWithin (λ p. begins at p ≡ false) ps 0 (length ps)) (λ i. (i < length ps) × HoldsAt (λ p. begins at p ≡ true) ps i × AllWithin (λ p. begins at p ≡ false) ps 0 i)
    → IfSome o (λ i. (i < length ps) × ((d : Piece) → piece_at ps at ≡ Some (get_or ps i d)) × (without ps at ≡ remove ps i)) × IfNone o ((piece_at ps at ≡ None) × (without ps at ≡ ps))
place_is ps at None misses =
    let none : piece_at ps at ≡ None = found_nowhere (λ l. piece_at l at) (begins at) Some None refl (λ _ _. refl) ps nothing (λ k lt. misses k nothing (omega arith) lt) in (tt, (none, without_none ps at none))
place_is ps at (Some i) first = (
  (
    first.0,
    λ d. found_at (λ l. piece_at l at) (begins at) Some None refl (λ _ _. refl) ps i d first.0 (λ k lt. first.2 k d (omega arith) lt) (first.1 d),
    without_at ps at i nothing first.0 (λ k lt. first.2 k nothing (omega arith) lt) (first.1 nothing),
  ),
  tt,
)

pub lie_more : (n : ℕ) (ps : List Piece) (p : Piece) → LieOn n ps → p.at + length p.bytes ≤ n → LieOn n (ps ++ p ∷ [])
lie_more n [] p h le = (le, tt)
lie_more n (q ∷ ps) p h le = (h.0, lie_more n ps p h.1 le)

pub lie_without : (n : ℕ) (ps : List Piece) (at : ℕ) → LieOn n ps → LieOn n (without ps at)
lie_without n [] at h = tt
lie_without n (p ∷ ps) at h = elim (p.at == at) as (λ b. LieOn n (if b then ps else p ∷ without ps at)) [ true ↦ h.1 | false ↦ (h.0, lie_without n ps at h.1) ]

pub lie_found : (n : ℕ) (ps : List Piece) (at : ℕ) (p : Piece) → LieOn n ps → piece_at ps at ≡ Some p → p.at + length p.bytes ≤ n
lie_found n [] at p h e = absurd cc
lie_found n (q ∷ ps) at p h e = go (q.at == at) e (lie_found n ps at p h.1)
  where
    go : (b : Bool) → (if b then Some q else piece_at ps at) ≡ Some p → (piece_at ps at ≡ Some p → p.at + length p.bytes ≤ n) → p.at + length p.bytes ≤ n
    go true e rec = let same : q ≡ p = cc in subst (λ (v : Piece). v.at + length v.bytes ≤ n) same h.0
    go false e rec = rec e

pub lie_get : (n : ℕ) (ps : List Piece) (i : ℕ) (d : Piece) → LieOn n ps → i < length ps → (get_or ps i d).at + length (get_or ps i d).bytes ≤ n
lie_get n [] i d h lt = absurd (omega arith)
lie_get n (p ∷ ps) zero d h lt = h.0
lie_get n (p ∷ ps) (suc i) d h lt = lie_get n ps i d h.1 (omega arith)

pub spaced_lie : (n : ℕ) (ps : List Piece) → AreSpaced n ps → LieOn n ps
spaced_lie n [] h = tt
spaced_lie n (p ∷ ps) h = (h.2, spaced_lie n ps h.4)

-- the search found a piece exactly where there is one
pub found_tells : (ps : List Piece) (at : ℕ) (o : Option ℕ) → IfSome o (λ i. (i < length ps) × ((d : Piece) → piece_at ps at ≡ Some (get_or ps i d)) × (without ps at ≡ remove ps i))
    → IfNone o ((piece_at ps at ≡ None) × (without ps at ≡ ps)) → is_some o ≡ is_some (piece_at ps at)
found_tells ps at (Some i) found none = sym (ap is_some (found.1 (record { at = 0; bytes = [] })))
found_tells ps at None found none = sym (ap is_some none.0)

third_holds : (a b c d e : Bool) → (a && b && c && d && e) ≡ true → c ≡ true
third_holds true true true d e h = refl
third_holds true true false d e h = absurd (false≢true h)
third_holds true false c d e h = absurd (false≢true h)
third_holds false b c d e h = absurd (false≢true h)

-- a write for which there is room lies on the disk
pub room_lies : (v : Device) (at n : ℕ) → has_room v at n ≡ true → at + n ≤ 2097152
room_lies v at n h =
    leb-true (at + n) 2097152 (third_holds (nat_le 1 n) (nat_le n 4096) (nat_le (at + n) 2097152) (is_apart v.in_flight at n) (is_apart v.failed at n) h)
