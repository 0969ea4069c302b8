-- Seats that are made one after the other, each with its own deque and those of the others.
use Rattle.std.proofs.Common.{◌≡◌, ℕ, zero, suc, ◌+◌, ◌<◌, ◌≤◌, ◌∙◌, refl, sym, ap, subst, List, [], ◌∷◌, ◌++◌, map, reverse, length, get_or, take, drop, length-append, append_assoc, arith, Some, inl, inr}
use Rattle.std.specs.Prelude.{slice_get, ◌⊎◌}
use Rattle.std.specs.List.{AllByRecursion}
use Rattle.std.proofs.lemmas.List.{append-nil, map-append, reverse-append, length-reverse, length-map, length-take-le, take-append-drop, take_at, drop_at, get_or_at}
use Rattle.std.proofs.lemmas.Option.{none-some, same_Some}
use mathlib.Core.List.{reverse-cons}
use Rattle.bursts.specs.Holdings.{Holding, new_part}
use Rattle.pool.specs.Deques.{DequeId, AtDeque, new_at}
use Rattle.pool.specs.Seats.{Seated, AtEach, IsNew}
use Rattle.pool.specs.Seating.{IsUnused, ids_of, AreOthers, seat_with}

-- lists that are equal are so up to a place and from there on
same_first : {X : Type 0} (vs ws xs ys : List X) → vs ++ ws ≡ xs ++ ys → length vs ≡ length xs → vs ≡ xs
same_first vs ws xs ys is len = sym (take_at vs ws _ len) ∙ ap (λ l. take (length xs) l) is ∙ take_at xs ys _ refl

same_rest : {X : Type 0} (vs ws xs ys : List X) → vs ++ ws ≡ xs ++ ys → length vs ≡ length xs → ws ≡ ys
same_rest vs ws xs ys is len = sym (drop_at vs ws _ len) ∙ ap (λ l. drop (length xs) l) is ∙ drop_at xs ys _ refl

-- a list with a last thing
last_of : {X : Type 0} (xs : List X) → 0 < length xs → (ys : List X) × (y : X) × (xs ≡ ys ++ y ∷ [])
last_of [] some = absurd (omega (arith, some))
last_of (x ∷ []) some = ([], x, refl)
last_of (x ∷ y ∷ ys) some = let r = last_of (y ∷ ys) (omega arith) in (x ∷ r.0, r.1, ap (λ l. x ∷ l) r.2)

-- of things that are each so at their place
get_left : {X : Type 0} (xs ys : List X) (i : ℕ) (y : X) → slice_get xs i ≡ Some y → slice_get (xs ++ ys) i ≡ Some y
get_left [] ys i y at = absurd (none-some y at)
get_left (x ∷ xs) ys zero y at = at
get_left (x ∷ xs) ys (suc i) y at = get_left xs ys i y at

get_end : {X : Type 0} (xs : List X) (x : X) → slice_get (xs ++ x ∷ []) (length xs) ≡ Some x
get_end [] x = refl
get_end (y ∷ ys) x = get_end ys x

get_pushed : {X : Type 0} (xs : List X) (x : X) (i : ℕ) (y : X) → slice_get (xs ++ x ∷ []) i ≡ Some y → (slice_get xs i ≡ Some y) ⊎ ((i ≡ length xs) × (x ≡ y))
get_pushed [] x zero y at = inr (refl, same_Some x y at)
get_pushed [] x (suc i) y at = absurd (none-some y at)
get_pushed (z ∷ zs) x zero y at = inl at
get_pushed (z ∷ zs) x (suc i) y at = further (slice_get zs i ≡ Some y) (x ≡ y) i (length zs) (get_pushed zs x i y at)
  where
    further : (P Q : Type 0) (i n : ℕ) → (P ⊎ ((i ≡ n) × Q)) → P ⊎ ((suc i ≡ suc n) × Q)
    further P Q i n (inl h) = inl h
    further P Q i n (inr h) = inr (ap suc h.0, h.1)

pub at_each_none : {X : Type 0} (P : ℕ → X → Type 0) (xs : List X) → xs ≡ [] → AtEach P xs
at_each_none P xs is i y at = absurd (none-some y (ap (λ l. slice_get l i) (sym is) ∙ at))

pub at_each_more : {X : Type 0} (P : ℕ → X → Type 0) (all xs : List X) (x : X) (n : ℕ) → all ≡ xs ++ x ∷ [] → AtEach P xs → length xs ≡ n → P n x → AtEach P all
at_each_more P all xs x n is h len p i y at = by_case (get_pushed xs x i y (ap (λ l. slice_get l i) (sym is) ∙ at))
  where
    by_case : ((slice_get xs i ≡ Some y) ⊎ ((i ≡ length xs) × (x ≡ y))) → P i y
    by_case (inl here) = h i y here
    by_case (inr last) = subst (λ z. P i z) last.1 (subst (λ k. P k x) (sym (last.0 ∙ len)) p)

pub at_each_last : {X : Type 0} (P : ℕ → X → Type 0) (all xs : List X) (x : X) → all ≡ xs ++ x ∷ [] → AtEach P all → AtEach P xs × P (length xs) x
at_each_last P all xs x is h =
    let split : AtEach P (xs ++ x ∷ []) = subst (λ l. AtEach P l) is h in
    ((λ i y at. split i y (get_left xs (x ∷ []) i y at)), split (length xs) x (get_end xs x))

all_init : {X : Type 0} (P : X → Type 0) (xs : List X) (x : X) → AllByRecursion P (xs ++ x ∷ []) → AllByRecursion P xs × P x
all_init P [] x h = (tt, h.0)
all_init P (y ∷ ys) x h = let r = all_init P ys x h.1 in ((h.0, r.0), r.1)

-- what all of a list are, the last is, and all others
pub all_last : {X : Type 0} (P : X → Type 0) (all xs : List X) (x : X) → all ≡ xs ++ x ∷ [] → AllByRecursion P all → AllByRecursion P xs × P x
all_last P all xs x is h = all_init P xs x (subst (λ l. AllByRecursion P l) is h)

-- The others: below a place top of the deques, k were visited from there down. They stand after these others.
pub record Down (ds : List AtDeque) (top k : ℕ) (first others : List AtDeque) : Type 0 where
  pub rest : List AtDeque
  pub done : List AtDeque
  pub tail : List AtDeque
  pub top_is : length rest + k ≡ top
  pub done_is : length done ≡ k
  pub deques_are : ds ≡ rest ++ (done ++ tail)
  pub others_are : others ≡ first ++ map new_at (ids_of (reverse done))

-- from a place of them, none yet
pub down_from : (ds os : List AtDeque) (top : ℕ) → top ≤ length ds → Down ds top 0 os os
down_from ds os top within = record {
  rest = take top ds;
  done = [];
  tail = drop top ds;
  top_is = let len = length-take-le top ds within in omega (arith, len);
  done_is = refl;
  deques_are = sym (take-append-drop top ds);
  others_are = sym (append-nil os);
}

-- one more
pub down_more : (ds first os ns : List AtDeque) (top k i : ℕ) (v : AtDeque) (u : AtDeque) → Down ds top k first os → v ≡ get_or ds i v → u ≡ new_at v.deque → ns ≡ os ++ u ∷ [] → k < top → i + (k + 1) ≡ top
    → Down ds top (k + 1) first ns
down_more ds first os ns top k i v u d got new more below at =
    let some = d.top_is in
    let l = last_of d.rest (omega (arith, some, below)) in
    let here : length l.0 ≡ i = let len = ap length l.2 ∙ length-append l.0 (l.1 ∷ []) in omega (arith, len, some, at) in
    let whole : ds ≡ l.0 ++ l.1 ∷ (d.done ++ d.tail) = d.deques_are ∙ ap (λ xs. xs ++ (d.done ++ d.tail)) l.2 ∙ append_assoc l.0 (l.1 ∷ []) (d.done ++ d.tail) in
    let same : v ≡ l.1 = got ∙ ap (λ xs. get_or xs i v) whole ∙ get_or_at l.0 l.1 (d.done ++ d.tail) v i here in
    record {
      rest = l.0;
      done = l.1 ∷ d.done;
      tail = d.tail;
      top_is = omega (arith, here, at);
      done_is = let done = d.done_is in omega (arith, done);
      deques_are = whole;
      others_are =
          more ∙ (λ j. d.others_are j ++ (new ∙ ap (λ (w : AtDeque). new_at w.deque) same) j ∷ [])
          ∙ append_assoc first (map new_at (ids_of (reverse d.done))) (new_at l.1.deque ∷ [])
          ∙ ap (λ xs. first ++ xs) (sym (new_push (reverse d.done) l.1) ∙ ap (λ xs. map new_at (ids_of xs)) (sym (reverse-cons l.1 d.done)));
    }
  where
    new_push : (xs : List AtDeque) (x : AtDeque) → map new_at (ids_of (xs ++ x ∷ [])) ≡ map new_at (ids_of xs) ++ new_at x.deque ∷ []
    new_push [] x = refl
    new_push (y ∷ ys) x = ap (λ l. new_at y.deque ∷ l) (new_push ys x)

-- those below a place, and then those above it
pub down_both : (ds os ns : List AtDeque) (place k : ℕ) → place < length ds → k + (place + 1) ≡ length ds → Down ds place place [] os → Down ds (length ds) k os ns → AreOthers ds place ns
down_both ds os ns place k within all below above =
    let no_rest : below.rest ≡ [] = nothing below.rest (let top = below.top_is in omega (arith, top)) in
    let first : ds ≡ below.done ++ below.tail = below.deques_are ∙ ap (λ xs. xs ++ (below.done ++ below.tail)) no_rest in
    let no_tail : above.tail ≡ [] =
    nothing above.tail
    (let len = ap length above.deques_are ∙ length-append above.rest (above.done ++ above.tail) in
    let more = length-append above.done above.tail in
    let top = above.top_is in let done = above.done_is in
    omega (arith, len, more, top, done))
    in
    let own = head_of below.tail
    (let len = ap length first ∙ length-append below.done below.tail in
    let done = below.done_is in
    omega (arith, len, done, within))
    in
    let split : ds ≡ (below.done ++ own.0 ∷ []) ++ own.1 = first ∙ ap (λ xs. below.done ++ xs) own.2 ∙ sym (append_assoc below.done (own.0 ∷ []) own.1) in
    let second : ds ≡ above.rest ++ above.done = above.deques_are ∙ ap (λ xs. above.rest ++ (above.done ++ xs)) no_tail ∙ ap (λ xs. above.rest ++ xs) (append-nil above.done) in
    let same : own.1 ≡ above.done =
    same_rest (below.done ++ own.0 ∷ []) own.1 above.rest above.done (sym split ∙ second)
    (let len = length-append below.done (own.0 ∷ []) in
    let done = below.done_is in let top = above.top_is in
    omega (arith, len, done, top, all))
    in
    record {
      before = below.done;
      own = own.0;
      after = above.done;
      place_is = below.done_is;
      deques_are = first ∙ ap (λ xs. below.done ++ xs) (own.2 ∙ ap (λ xs. own.0 ∷ xs) same);
      others_are = above.others_are ∙ ap (λ xs. xs ++ map new_at (ids_of (reverse above.done))) below.others_are ∙ sym (new_both (reverse below.done) (reverse above.done));
    }
  where
    nothing : (xs : List AtDeque) → length xs ≡ 0 → xs ≡ []
    nothing [] none = refl
    nothing (x ∷ xs) none = absurd (omega (arith, none))

    head_of : (xs : List AtDeque) → 0 < length xs → (x : AtDeque) × (ys : List AtDeque) × (xs ≡ x ∷ ys)
    head_of [] some = absurd (omega (arith, some))
    head_of (x ∷ ys) some = (x, ys, refl)

    new_both : (xs ys : List AtDeque) → map new_at (ids_of (xs ++ ys)) ≡ map new_at (ids_of xs) ++ map new_at (ids_of ys)
    new_both [] ys = refl
    new_both (x ∷ xs) ys = ap (λ l. new_at x.deque ∷ l) (new_both xs ys)

-- the deques of the workers, of which the last is the first worker's
abbrev pub by_worker : List AtDeque → List DequeId
by_worker ds = reverse (ids_of ds)

ids_append : (xs ys : List AtDeque) → ids_of (xs ++ ys) ≡ ids_of xs ++ ids_of ys
ids_append xs ys = map-append (λ (d : AtDeque). d.deque) xs ys

ids_reverse : (xs : List AtDeque) → ids_of (reverse xs) ≡ reverse (ids_of xs)
ids_reverse [] = refl
ids_reverse (x ∷ xs) = ap ids_of (reverse-cons x xs) ∙ ids_append (reverse xs) (x ∷ []) ∙ ap (λ l. l ++ x.deque ∷ []) (ids_reverse xs) ∙ sym (reverse-cons x.deque (ids_of xs))

-- the seat of the worker after those that have theirs is new
pub seat_is_new : (ds xs gone others : List AtDeque) (own : AtDeque) (share : Holding) (s : Seated) (place k : ℕ) → ds ≡ xs ++ (own ∷ gone) → length gone ≡ k → length xs ≡ place → AreOthers ds place others
    → IsUnused own → share ≡ new_part → s ≡ seat_with own others share → IsNew (by_worker ds) k s
seat_is_new ds xs gone others own share s place k whole count here a unused part is =
    let same_before : a.before ≡ xs = same_first a.before (a.own ∷ a.after) xs (own ∷ gone) (sym a.deques_are ∙ whole) (a.place_is ∙ sym here) in
    let same_after : a.own ∷ a.after ≡ own ∷ gone = same_rest a.before (a.own ∷ a.after) xs (own ∷ gone) (sym a.deques_are ∙ whole) (a.place_is ∙ sym here) in
    let after : a.after ≡ gone = ap (λ l. drop 1 l) same_after in
    subst (λ (u : Seated). IsNew (by_worker ds) k u) (sym is) record {
      before = reverse (ids_of gone);
      after = reverse (ids_of xs);
      place_is = length-reverse (ids_of gone) ∙ length-map gone (λ (d : AtDeque). d.deque) ∙ count;
      deques_are =
          ap (λ l. reverse (ids_of l)) whole ∙ ap reverse (ids_append xs (own ∷ gone)) ∙ reverse-append (ids_of xs) (own.deque ∷ ids_of gone)
          ∙ ap (λ l. l ++ reverse (ids_of xs)) (reverse-cons own.deque (ids_of gone)) ∙ append_assoc (reverse (ids_of gone)) (own.deque ∷ []) (reverse (ids_of xs));
      own = unused;
      others =
          a.others_are ∙ (λ i. map new_at (ids_of (reverse (same_before i) ++ reverse (after i)))) ∙ ap (λ l. map new_at l) (ids_append (reverse xs) (reverse gone))
          ∙ (λ i. map new_at (ids_reverse xs i ++ ids_reverse gone i));
      spare = refl;
      results = refl;
      share = part;
      told = refl;
    }
