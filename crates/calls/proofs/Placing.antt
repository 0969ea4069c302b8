-- Tapes at their places, one by one.
use Rattle.std.proofs.Common.{◌≡◌, ℕ, zero, suc, ◌+◌, ◌-◌, ◌<◌, ◌≤◌, List, [], ◌∷◌, length, get_or, take, drop, slice_get, slice_set, Option, Some, None, IfSome, refl, sym, ap, subst, ◌∙◌, arith, length-drop}
use Rattle.std.specs.Prelude.{option_map}
use Rattle.std.proofs.lemmas.Option.{slice_get-get_or, slice_get_past}
use Rattle.kernel_model.specs.State.{TapeState, with_place}
use Rattle.kernel_model.specs.declared.effect.TapeRead.{TapeRead}
use Rattle.calls.specs.Places.{tapes_at, bytes_of}
use Rattle.calls.specs.Plans.{AreLeft}

-- the tape of this number, at a place
abbrev pub tape_at : List (List ℕ) → ℕ → ℕ → TapeState
tape_at tapes t place = record { bytes = bytes_of tapes t; place = place }

-- at most n bytes of a tape from its place on
abbrev pub part : ℕ → TapeState → List ℕ
part n tape = take n (drop tape.place tape.bytes)

get-tapes_at : (tapes : List (List ℕ)) (places : List ℕ) (t : ℕ) → slice_get (tapes_at tapes places) t ≡ option_map (tape_at tapes t) (slice_get places t)
get-tapes_at tapes [] t = refl
get-tapes_at [] (p ∷ ps) zero = refl
get-tapes_at [] (p ∷ ps) (suc t) = get-tapes_at [] ps t
get-tapes_at (b ∷ bs) (p ∷ ps) zero = refl
get-tapes_at (b ∷ bs) (p ∷ ps) (suc t) = get-tapes_at bs ps t

set-tapes_at : (tapes : List (List ℕ)) (places : List ℕ) (t place : ℕ) → tapes_at tapes (slice_set places t place) ≡ slice_set (tapes_at tapes places) t (tape_at tapes t place)
set-tapes_at tapes [] t place = refl
set-tapes_at [] (p ∷ ps) zero place = refl
set-tapes_at [] (p ∷ ps) (suc t) place = ap (λ (ts : List TapeState). record { bytes = []; place = p } ∷ ts) (set-tapes_at [] ps t place)
set-tapes_at (b ∷ bs) (p ∷ ps) zero place = refl
set-tapes_at (b ∷ bs) (p ∷ ps) (suc t) place = ap (λ (ts : List TapeState). record { bytes = b; place = p } ∷ ts) (set-tapes_at bs ps t place)

there : (tapes : List (List ℕ)) (places : List ℕ) (t : ℕ) → t < length places → slice_get (tapes_at tapes places) t ≡ Some (tape_at tapes t (get_or places t 0))
there tapes places t lt = get-tapes_at tapes places t ∙ ap (option_map (tape_at tapes t)) (slice_get-get_or places t 0 lt)

past : (tapes : List (List ℕ)) (places : List ℕ) (t : ℕ) → length places ≤ t → slice_get (tapes_at tapes places) t ≡ None
past tapes places t ge = get-tapes_at tapes places t ∙ ap (option_map (tape_at tapes t)) (slice_get_past places t ge)

-- a tape that is there is read from its place on
pub part-there : (tapes : List (List ℕ)) (places : List ℕ) (ts : List TapeState) (t n : ℕ) → tapes_at tapes places ≡ ts → t < length places
    → Some (take n (drop (get_or places t 0) (bytes_of tapes t))) ≡ option_map (part n) (slice_get ts t)
part-there tapes places ts t n is lt =
    ap (option_map (part n)) (sym (there tapes places t lt) ∙ ap (λ (all : List TapeState). slice_get all t) is)

-- nothing is read of one that is not
pub part-past : (tapes : List (List ℕ)) (places : List ℕ) (ts : List TapeState) (t n : ℕ) → tapes_at tapes places ≡ ts → length places ≤ t
    → None ≡ option_map (part n) (slice_get ts t)
part-past tapes places ts t n is ge =
    ap (option_map (part n)) (sym (past tapes places t ge) ∙ ap (λ (all : List TapeState). slice_get all t) is)

-- a tape that is there goes on
pub advanced-there : (tapes : List (List ℕ)) (places : List ℕ) (ts : List TapeState) (t count : ℕ) → tapes_at tapes places ≡ ts → t < length places
    → tapes_at tapes (slice_set places t (get_or places t 0 + count)) ≡ with_place ts t count (slice_get ts t)
advanced-there tapes places ts t count is lt =
    set-tapes_at tapes places t (get_or places t 0 + count)
    ∙ ap (with_place (tapes_at tapes places) t count) (sym (there tapes places t lt))
    ∙ ap (λ (all : List TapeState). with_place all t count (slice_get all t)) is

-- one that is not stays away
pub advanced-past : (tapes : List (List ℕ)) (places : List ℕ) (ts : List TapeState) (t count : ℕ) → tapes_at tapes places ≡ ts → length places ≤ t
    → ts ≡ with_place ts t count (slice_get ts t)
advanced-past tapes places ts t count is ge =
    ap (with_place ts t count) (sym (past tapes places t ge) ∙ ap (λ (all : List TapeState). slice_get all t) is)

-- what is left of a tape
pub left-there : (tapes : List (List ℕ)) (places : List ℕ) (ts : List TapeState) (r : TapeRead) → tapes_at tapes places ≡ ts → r.tape < length places
    → AreLeft ts r → r.count ≤ length (bytes_of tapes r.tape) - get_or places r.tape 0
left-there tapes places ts r is lt left =
    let is_there : slice_get ts r.tape ≡ Some (tape_at tapes r.tape (get_or places r.tape 0)) =
    ap (λ (all : List TapeState). slice_get all r.tape) (sym is) ∙ there tapes places r.tape lt in
    let few : r.count ≤ length (drop (get_or places r.tape 0) (bytes_of tapes r.tape)) =
    subst (λ (o : Option TapeState). IfSome o (λ tape. r.count ≤ length (drop tape.place tape.bytes))) is_there left in
    omega (arith, length-drop (get_or places r.tape 0) (bytes_of tapes r.tape))
