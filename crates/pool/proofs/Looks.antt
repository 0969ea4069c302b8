-- A round over deques, of which those before a place had nothing.
use Rattle.std.proofs.Common.{◌≡◌, ℕ, suc, ◌+◌, ◌<◌, ◌≤◌, ◌∙◌, refl, sym, ap, List, [], ◌∷◌, ◌++◌, map, set, get_or, length, length-append, append_assoc, arith}
use Rattle.std.proofs.lemmas.List.{append-nil}
use Rattle.bursts.specs.declared.loan_id.LoanId.{LoanId}
use Rattle.pool.specs.Deques.{AtDeque, took_from, missed_at, Stolen}

get_at : (before us : List AtDeque) (u d : AtDeque) → get_or (map missed_at before ++ u ∷ us) (length before) d ≡ u
get_at [] us u d = refl
get_at (b ∷ bs) us u d = get_at bs us u d

set_at : (before us : List AtDeque) (u w : AtDeque) → set (map missed_at before ++ u ∷ us) (length before) w ≡ map missed_at before ++ w ∷ us
set_at [] us u w = refl
set_at (b ∷ bs) us u w = ap (λ l. missed_at b ∷ l) (set_at bs us u w)

map_push : (before us : List AtDeque) (u : AtDeque) → map missed_at (before ++ u ∷ []) ++ us ≡ map missed_at before ++ missed_at u ∷ us
map_push [] us u = refl
map_push (b ∷ bs) us u = ap (λ l. missed_at b ∷ l) (map_push bs us u)

-- so far: of the deques os, those before i had nothing
abbrev pub SoFar : List AtDeque → List AtDeque → ℕ → Type 0
SoFar os xs i = (before : List AtDeque) × (after : List AtDeque) × (length before ≡ i) × (os ≡ before ++ after) × (xs ≡ map missed_at before ++ after)

pub nothing_yet : (os : List AtDeque) → SoFar os os 0
nothing_yet os = ([], os, refl, refl, refl)

-- there is a deque at a place below their number
abbrev Next : List AtDeque → List AtDeque → ℕ → AtDeque → Type 0
Next os xs i v =
    (before : List AtDeque) × (after : List AtDeque) × (length before ≡ i) × (os ≡ before ++ v ∷ after) × (xs ≡ map missed_at before ++ v ∷ after)

too_far : {X : Type 0} (before : List AtDeque) (os : List AtDeque) (i n : ℕ) → length before ≡ i → os ≡ before ++ [] → n ≡ length os → i < n → X
too_far before os i n at is len below =
    let all : length os ≡ length before = ap length (is ∙ append-nil before) in
    absurd (omega (arith, all, at, len, below))

next_there : (os xs : List AtDeque) (i n : ℕ) (v : AtDeque) → SoFar os xs i → n ≡ length os → i < n → v ≡ get_or xs i v → Next os xs i v
next_there os xs i n v (before, [], at, is, now) len below got = too_far before os i n at is len below
next_there os xs i n v (before, u ∷ us, at, is, now) len below got =
    let same : v ≡ u = got ∙ (λ j. get_or (now j) (sym at j) v) ∙ get_at before us u v in
    (before, us, at, is ∙ ap (λ y. before ++ y ∷ us) (sym same), now ∙ ap (λ y. map missed_at before ++ y ∷ us) (sym same))

-- it had this loan
pub taken_there : (os xs : List AtDeque) (i n : ℕ) (v w : AtDeque) (x : LoanId) → SoFar os xs i → n ≡ length os → i < n → v ≡ get_or xs i v → w ≡ took_from v x → Stolen os (set xs i w) x
taken_there os xs i n v w x so_far len below got is =
    let t = next_there os xs i n v so_far len below got in
    record {
      before = t.0;
      from = v;
      after = t.1;
      old_is = t.3;
      new_is = (λ j. set (t.4 j) (sym t.2 j) (is j)) ∙ set_at t.0 t.1 v (took_from v x);
    }

-- it had nothing either
pub missed_there : (os xs : List AtDeque) (i n : ℕ) (v w : AtDeque) → SoFar os xs i → n ≡ length os → i < n → v ≡ get_or xs i v → w ≡ missed_at v → SoFar os (set xs i w) (i + 1)
missed_there os xs i n v w so_far len below got is =
    let t = next_there os xs i n v so_far len below got in (
      t.0 ++ v ∷ [],
      t.1,
      length-append t.0 (v ∷ []) ∙ ap (λ k. k + 1) t.2,
      t.3 ∙ sym (append_assoc t.0 (v ∷ []) t.1),
      (λ j. set (t.4 j) (sym t.2 j) (is j)) ∙ set_at t.0 t.1 v (missed_at v) ∙ sym (map_push t.0 t.1 v),
    )

-- all had nothing
pub all_missed : (os xs : List AtDeque) (i n : ℕ) → SoFar os xs i → n ≡ length os → n ≤ i → xs ≡ map missed_at os
all_missed os xs i n (before, [], at, is, now) len above = now ∙ append-nil (map missed_at before) ∙ ap (λ l. map missed_at l) (sym (is ∙ append-nil before))
all_missed os xs i n (before, u ∷ us, at, is, now) len above =
    let all : length os ≡ length before + length (u ∷ us) = ap length is ∙ length-append before (u ∷ us) in
    absurd (omega (arith, all, at, len, above))

-- the list is as long as it was
pub still_below : (os xs : List AtDeque) (i n m : ℕ) → SoFar os xs i → n ≡ length os → i < n → m ≡ length xs → i < m
still_below os xs i n m (before, [], at, is, now) len below was = too_far before os i n at is len below
still_below os xs i n m (before, u ∷ us, at, is, now) len below was =
    let all : length xs ≡ length (map missed_at before) + length (u ∷ us) = ap length now ∙ length-append (map missed_at before) (u ∷ us) in
    let same : length (map missed_at before) ≡ length before = length_map before in
    omega (arith, all, at, was, same)
  where
    length_map : (ds : List AtDeque) → length (map missed_at ds) ≡ length ds
    length_map [] = refl
    length_map (d ∷ ds) = ap (λ k. suc k) (length_map ds)
