-- Bytes at places.
use Rattle.std.proofs.Common.{◌≡◌, ℕ, zero, suc, ◌+◌, ◌-◌, ◌<◌, ◌≤◌, inl, inr, ◌⊎◌, Bool, true, false, List, [], ◌∷◌, ◌++◌, length, get_or, take, drop, Some, refl, sym, ap, subst, ◌∙◌, arith, length-append}
use Rattle.std.specs.Prelude.{◌==◌, if◌then◌else◌}
use Rattle.std.specs.List.{AllByRecursion}
use Rattle.std.proofs.lemmas.Bool.{cases_lt}
use Rattle.std.proofs.lemmas.List.{get_or_append_left, get_or-append_right, get_or-take, get_or-drop, length-take, length-drop}
use Rattle.disk_model.specs.Held.{HasBytes}
use Rattle.disk_model.specs.declared.change.Piece.{Piece}
use Rattle.disk_model.specs.Storage.{overwritten, pieces_from, pieces, is_empty, without, piece_at}
use Rattle.disk_model.specs.Crash.{InRange, IsSameBut}

-- ---- a write

prefix_length : (d : List ℕ) (at : ℕ) (bs : List ℕ) → at ≤ length d → length (take at d ++ bs) ≡ at + length bs
prefix_length d at bs le = omega (arith, length-append (take at d) bs, length-take at d)

pub over_below : (d : List ℕ) (at : ℕ) (bs : List ℕ) (i : ℕ) → at ≤ length d → i < at → get_or (overwritten d at bs) i 0 ≡ get_or d i 0
over_below d at bs i le lt =
    get_or_append_left (take at d ++ bs) (drop (at + length bs) d) 0 i (omega (arith, prefix_length d at bs le))
    ∙ get_or_append_left (take at d) bs 0 i (omega (arith, length-take at d))
    ∙ get_or-take at d i 0 lt

pub over_above : (d : List ℕ) (at : ℕ) (bs : List ℕ) (i : ℕ) → at ≤ length d → at + length bs ≤ i → get_or (overwritten d at bs) i 0 ≡ get_or d i 0
over_above d at bs i le ge =
    get_or-append_right (take at d ++ bs) (drop (at + length bs) d) (at + length bs) i 0 (prefix_length d at bs le) ge
    ∙ get_or-drop (at + length bs) d (i - (at + length bs)) 0
    ∙ ap (λ (k : ℕ). get_or d k 0) (omega arith)

pub over_in : (d : List ℕ) (at : ℕ) (bs : List ℕ) → at ≤ length d → HasBytes (overwritten d at bs) at bs
over_in d at bs le i lt =
    get_or_append_left (take at d ++ bs) (drop (at + length bs) d) 0 (at + i) (omega (arith, prefix_length d at bs le))
    ∙ get_or-append_right (take at d) bs at (at + i) 0 (omega (arith, length-take at d)) (omega arith)
    ∙ ap (λ (k : ℕ). get_or bs k 0) (omega arith)

pub over_length : (d : List ℕ) (at : ℕ) (bs : List ℕ) → at + length bs ≤ length d → length (overwritten d at bs) ≡ length d
over_length d at bs le = omega (arith, prefix_length d at bs (omega arith), length-append (take at d ++ bs) (drop (at + length bs) d), length-drop (at + length bs) d)

-- ---- ranges

pub in_left : (ps qs : List Piece) (i : ℕ) → InRange ps i → InRange (ps ++ qs) i
in_left (p ∷ ps) qs i (inl h) = inl h
in_left (p ∷ ps) qs i (inr h) = inr (in_left ps qs i h)
in_left [] qs i h = absurd h

pub in_right : (ps qs : List Piece) (i : ℕ) → InRange qs i → InRange (ps ++ qs) i
in_right [] qs i h = h
in_right (p ∷ ps) qs i h = inr (in_right ps qs i h)

pub in_either : (ps qs : List Piece) (i : ℕ) → InRange (ps ++ qs) i → InRange ps i ⊎ InRange qs i
in_either [] qs i h = inr h
in_either (p ∷ ps) qs i (inl h) = inl (inl h)
in_either (p ∷ ps) qs i (inr h) = elim (in_either ps qs i h) [ inl a ↦ inl (inr a) | inr b ↦ inr b ]

-- the piece that begins there, and the others
abbrev Within : Piece → ℕ → Type 0
Within p i = (p.at ≤ i) × (i < p.at + length p.bytes)

pub record IsTaken (ps : List Piece) (p : Piece) (rest : List Piece) : Type 0 where
  pub parts : (i : ℕ) → InRange ps i → Within p i ⊎ InRange rest i
  pub back : (i : ℕ) → InRange rest i → InRange ps i
  pub here : (i : ℕ) → Within p i → InRange ps i

pub taken : (ps : List Piece) (at : ℕ) (p : Piece) → piece_at ps at ≡ Some p → IsTaken ps p (without ps at)
taken [] at p h = absurd cc
taken (q ∷ ps) at p h = go (q.at == at) h (taken ps at p)
  where
    go : (b : Bool) → (if b then Some q else piece_at ps at) ≡ Some p → (piece_at ps at ≡ Some p → IsTaken ps p (without ps at)) → IsTaken (q ∷ ps) p (if b then ps else q ∷ without ps at)
    go true e rec = let same : q ≡ p = cc in subst (λ (v : Piece). IsTaken (q ∷ ps) v ps) same (record { parts = λ i h. h; back = λ i h. inr h; here = λ i h. inl h })
    go false e rec = let r = rec e in record {
      parts = λ i h. elim h as (λ _. Within p i ⊎ (Within q i ⊎ InRange (without ps at) i)) [
        | inl a ↦ inr (inl a)
        | inr b ↦ elim (r.parts i b) as (λ _. Within p i ⊎ (Within q i ⊎ InRange (without ps at) i)) [ inl c ↦ inl c | inr d ↦ inr (inr d) ]
      ];
      back = λ i h. elim h as (λ _. Within q i ⊎ InRange ps i) [ inl a ↦ inl a | inr b ↦ inr (r.back i b) ];
      here = λ i h. inr (r.here i h);
    }

pub taken_all : (P : Piece → Type 0) (ps : List Piece) (at : ℕ) (p : Piece) → piece_at ps at ≡ Some p → AllByRecursion P ps → P p × AllByRecursion P (without ps at)
taken_all P [] at p h all = absurd cc
taken_all P (q ∷ ps) at p h all = go (q.at == at) h (taken_all P ps at p)
  where
    go : (b : Bool) → (if b then Some q else piece_at ps at) ≡ Some p → (piece_at ps at ≡ Some p → AllByRecursion P ps → P p × AllByRecursion P (without ps at)) → P p × AllByRecursion P (if b then ps else q ∷ without ps at)
    go true e rec = let same : q ≡ p = cc in (subst P same all.0, all.1)
    go false e rec = let r = rec e all.1 in (r.0, (all.0, r.1))

-- ---- the same outside ranges

pub same_less : (ps qs : List Piece) (a b : List ℕ) → IsSameBut ps a b → ((i : ℕ) → InRange ps i → InRange qs i) → IsSameBut qs a b
same_less ps qs a b h sub = record { size = h.size; same = λ i out. h.same i (λ inside. out (sub i inside)) }

pub same_then : (ps : List Piece) (a b c : List ℕ) → IsSameBut ps a b → IsSameBut ps b c → IsSameBut ps a c
same_then ps a b c h g = record { size = g.size ∙ h.size; same = λ i out. g.same i out ∙ h.same i out }

-- ---- a text in pieces

-- what the piece brings is what this disk has there
abbrev pub Carried : List ℕ → Piece → Type 0
Carried disk p = HasBytes disk p.at p.bytes × (p.at + length p.bytes ≤ length disk)

stands_take : (d : List ℕ) (at n : ℕ) (bs : List ℕ) → HasBytes d at bs → HasBytes d at (take n bs)
stands_take d at n bs h i lt =
    h i (omega (arith, length-take n bs)) ∙ sym (get_or-take n bs i 0 (omega (arith, length-take n bs)))

stands_drop : (d : List ℕ) (at n : ℕ) (bs : List ℕ) → HasBytes d at bs → HasBytes d (at + n) (drop n bs)
stands_drop d at n bs h i lt =
    ap (λ (k : ℕ). get_or d k 0) (let e : at + n + i ≡ at + (n + i) = omega arith in e)
    ∙ h (n + i) (omega (arith, length-drop n bs)) ∙ sym (get_or-drop n bs i 0)

from_carried : (n size : ℕ) (d : List ℕ) (at : ℕ) (bs : List ℕ) → HasBytes d at bs → (1 ≤ length bs → at + length bs ≤ length d) → AllByRecursion (Carried d) (pieces_from n size at bs)
from_carried zero size d at bs h le = tt
from_carried (suc n) size d at [] h le = tt
from_carried (suc n) size d at (b ∷ bs) h le = (
  (stands_take d at size (b ∷ bs) h, let whole = le (omega arith) in omega (arith, length-take size (b ∷ bs))),
  from_carried n size d (at + size) (drop size (b ∷ bs)) (stands_drop d at size (b ∷ bs) h) (λ some. let whole = le (omega arith) in omega (arith, length-drop size (b ∷ bs))),
)

-- each place of the text is in one of them
from_cover : (n size at : ℕ) (bs : List ℕ) (i : ℕ) → length bs ≤ n → 1 ≤ size → at ≤ i → i < at + length bs → InRange (pieces_from n size at bs) i
from_cover zero size at bs i enough some ge lt = absurd (omega arith)
from_cover (suc n) size at [] i enough some ge lt = absurd (omega arith)
from_cover (suc n) size at (b ∷ bs) i enough some ge lt = elim (cases_lt i (at + size)) [
  | inl near ↦ inl (ge, omega (arith, length-take size (b ∷ bs)))
  | inr far ↦ inr (from_cover n size (at + size) (drop size (b ∷ bs)) i (omega (arith, length-drop size (b ∷ bs))) some far (omega (arith, length-drop size (b ∷ bs))))
]

from_within : (n size at : ℕ) (bs : List ℕ) (i : ℕ) → InRange (pieces_from n size at bs) i → (at ≤ i) × (i < at + length bs)
from_within zero size at bs i h = absurd h
from_within (suc n) size at [] i h = absurd h
from_within (suc n) size at (b ∷ bs) i (inl h) = (h.0, omega (arith, length-take size (b ∷ bs)))
from_within (suc n) size at (b ∷ bs) i (inr h) =
    let r = from_within n size (at + size) (drop size (b ∷ bs)) i h in (omega arith, omega (arith, length-drop size (b ∷ bs)))

pub pieces_carried : (d : List ℕ) (at : ℕ) (bs : List ℕ) → HasBytes d at bs → at + length bs ≤ length d → AllByRecursion (Carried d) (pieces at bs)
unfolding pieces
pieces_carried d at bs h le = from_carried (length bs) 4096 d at bs h (λ some. le)

pub pieces_cover : (at : ℕ) (bs : List ℕ) (i : ℕ) → at ≤ i → i < at + length bs → InRange (pieces at bs) i
unfolding pieces
pieces_cover at bs i ge lt = from_cover (length bs) 4096 at bs i (omega arith) (omega arith) ge lt

pub pieces_within : (at : ℕ) (bs : List ℕ) (i : ℕ) → InRange (pieces at bs) i → (at ≤ i) × (i < at + length bs)
unfolding pieces
pieces_within at bs i h = from_within (length bs) 4096 at bs i h

pub pieces_some : (at : ℕ) (bs : List ℕ) → 1 ≤ length bs → is_empty (pieces at bs) ≡ false
unfolding pieces
pieces_some at [] some = absurd (omega arith)
pieces_some at (b ∷ bs) some = refl

-- a write is the same but for its pieces
pub over_same : (d : List ℕ) (at : ℕ) (bs : List ℕ) (ps : List Piece) → at + length bs ≤ length d → ((i : ℕ) → at ≤ i → i < at + length bs → InRange ps i) → IsSameBut ps d (overwritten d at bs)
over_same d at bs ps le cover = record {
  size = over_length d at bs le;
  same = λ i out. elim (cases_lt i at) as (λ _. get_or (overwritten d at bs) i 0 ≡ get_or d i 0) [
    | inl below ↦ over_below d at bs i (omega arith) below
    | inr ge ↦ elim (cases_lt i (at + length bs)) as (λ _. get_or (overwritten d at bs) i 0 ≡ get_or d i 0) [
      | inl lt ↦ absurd (out (cover i ge lt))
      | inr above ↦ over_above d at bs i (omega arith) above
    ]
  ];
}
