-- Each order can be sorted: move by move, each new one goes back to its place by swaps with moves of which it is independent.
use Rattle.std.proofs.Common.{◌≡◌, ℕ, suc, ◌+◌, ◌≤◌, Bool, true, false, List, [], ◌∷◌, length, refl, sym, ap, subst, ◌∙◌, arith}
use Rattle.std.specs.Prelude.{if◌then◌else◌, nat_lt}
use Rattle.std.proofs.lemmas.Bool.{false≢true, ltb-true, ltb-false, le-ltb}
use Rattle.order_laws.specs.Orders.{System, Made, made_in, reached, may_follow, IsSorted, Commutes, HasSorted}

module _ {S M L : Type 0} (y : System S M L) where
  -- ---- histories: moves that were made, the last first
  abbrev pub ends_in : S → List (Made M L) → S
  ends_in s [] = s
  ends_in s (d ∷ past) = y.go (ends_in s past) d.move

  -- each label is what its move had where it was made
  abbrev pub IsHistory : S → List (Made M L) → Type 0
  IsHistory s [] = Unit {0}
  IsHistory s (d ∷ past) = (y.label (ends_in s past) d.move ≡ d.label) × IsHistory s past

  -- each one works
  abbrev pub EachWorks : List (Made M L) → Type 0
  EachWorks [] = Unit {0}
  EachWorks (d ∷ past) = (y.works d.label ≡ true) × EachWorks past

  -- each one may follow those before it
  abbrev pub IsPlaced : List (Made M L) → Type 0
  IsPlaced [] = Unit {0}
  IsPlaced (d ∷ past) = (may_follow y past d ≡ true) × IsPlaced past

  -- a history with one more move, which goes back to its place
  abbrev pub placed : Made M L → List (Made M L) → List (Made M L)
  placed d [] = d ∷ []
  placed d (p ∷ past) = if may_follow y (p ∷ past) d then d ∷ p ∷ past else p ∷ placed d past

  -- ---- what a refusal to follow says
  pub record Goes (d p : Made M L) (past : List (Made M L)) : Type 0 where
    pub independent : y.independent p.label d.label ≡ true
    pub lower : may_follow y past d ≡ true → nat_lt (y.rank d.move) (y.rank p.move) ≡ true

  goes : (d p : Made M L) (past : List (Made M L)) → may_follow y (p ∷ past) d ≡ false → Goes d p past
  goes d p past h = by (y.independent p.label d.label) (nat_lt (y.rank d.move) (y.rank p.move)) (may_follow y past d) refl refl refl h
    where
      by : (a b c : Bool) → y.independent p.label d.label ≡ a → nat_lt (y.rank d.move) (y.rank p.move) ≡ b → may_follow y past d ≡ c
          → (if a then (if b then false else c) else true) ≡ false → Goes d p past
      by false b c ea eb ec k = absurd (false≢true (sym k))
      by true true c ea eb ec k = record { independent = ea; lower = λ h. eb }
      by true false true ea eb ec k = absurd (false≢true (sym k))
      by true false false ea eb ec k = record { independent = ea; lower = λ h. absurd (false≢true (sym ec ∙ h)) }

  -- ---- the new order is sorted
  on_top : (d e : Made M L) (past : List (Made M L)) → nat_lt (y.rank e.move) (y.rank d.move) ≡ false → may_follow y past e ≡ true → may_follow y (d ∷ past) e ≡ true
  on_top d e past low h = by (y.independent d.label e.label)
    where
      by : (a : Bool) → (if a then (if nat_lt (y.rank e.move) (y.rank d.move) then false else may_follow y past e) else true) ≡ true
      by true = rw low h
      by false = refl

  below : (a b c : ℕ) → nat_lt a b ≡ true → nat_lt c b ≡ false → nat_lt c a ≡ false
  below a b c h k = let less = ltb-true a b h in let most = ltb-false c b k in le-ltb c a (omega (arith, less, most))

  -- past one more move
  under : (d e p : Made M L) (past : List (Made M L)) → ((may_follow y past d ≡ true → nat_lt (y.rank e.move) (y.rank d.move) ≡ false)
      → may_follow y past e ≡ true → may_follow y (placed d past) e ≡ true)
      → may_follow y (p ∷ past) d ≡ false → may_follow y (p ∷ past) e ≡ true → may_follow y (p ∷ placed d past) e ≡ true
  under d e p past rest refused h = by (y.independent p.label e.label) (nat_lt (y.rank e.move) (y.rank p.move)) refl h
    where
      by : (a b : Bool) → nat_lt (y.rank e.move) (y.rank p.move) ≡ b → (if a then (if b then false else may_follow y past e) else true) ≡ true
          → (if a then (if b then false else may_follow y (placed d past) e) else true) ≡ true
      by false b eb k = refl
      by true true eb k = k
      by true false eb k = rest (λ f. below (y.rank d.move) (y.rank p.move) (y.rank e.move) ((goes d p past refused).lower f) eb) k

  -- an earlier one may still follow, where the new one that goes back to its place is not of a higher rank
  follows : (d e : Made M L) (past : List (Made M L)) → (may_follow y past d ≡ true → nat_lt (y.rank e.move) (y.rank d.move) ≡ false)
      → may_follow y past e ≡ true → may_follow y (placed d past) e ≡ true
  follows d e [] low h = on_top d e [] (low refl) h
  follows d e (p ∷ past) low h = elim (may_follow y (p ∷ past) d) as (λ t. may_follow y (p ∷ past) d ≡ t → may_follow y (if t then d ∷ p ∷ past else p ∷ placed d past) e ≡ true) [
    | true ↦ λ is. on_top d e (p ∷ past) (low is) h
    | false ↦ λ is. under d e p past (follows d e past) is h
  ] refl

  sorted : (d : Made M L) (past : List (Made M L)) → IsPlaced past → IsPlaced (placed d past)
  sorted d [] h = (refl, tt)
  sorted d (p ∷ past) h = elim (may_follow y (p ∷ past) d) as (λ t. may_follow y (p ∷ past) d ≡ t → IsPlaced (if t then d ∷ p ∷ past else p ∷ placed d past)) [
    | true ↦ λ is. (is, h)
    | false ↦ λ is. (follows d p past (λ f. not_below (y.rank d.move) (y.rank p.move) ((goes d p past is).lower f)) h.0, sorted d past h.1)
  ] refl
    where
      not_below : (a b : ℕ) → nat_lt a b ≡ true → nat_lt b a ≡ false
      not_below a b k = let less = ltb-true a b k in le-ltb b a (omega (arith, less))

  work : (d : Made M L) (past : List (Made M L)) → y.works d.label ≡ true → EachWorks past → EachWorks (placed d past)
  work d [] w h = (w, tt)
  work d (p ∷ past) w h = elim (may_follow y (p ∷ past) d) as (λ t. EachWorks (if t then d ∷ p ∷ past else p ∷ placed d past)) [
    | true ↦ (w, h)
    | false ↦ (h.0, work d past w h.1)
  ]

  long : (d : Made M L) (past : List (Made M L)) → length (placed d past) ≡ suc (length past)
  long d [] = refl
  long d (p ∷ past) = elim (may_follow y (p ∷ past) d) as (λ t. length (if t then d ∷ p ∷ past else p ∷ placed d past) ≡ suc (suc (length past))) [
    | true ↦ refl
    | false ↦ ap suc (long d past)
  ]

  -- ---- the new order comes to the same state
  module _ (P : S → Type 0) (law : Commutes y P) (s : S) (start : P s) where
    stays : (past : List (Made M L)) → P (ends_in s past)
    stays [] = start
    stays (d ∷ past) = law.keeps (ends_in s past) d.move (stays past)

    pub record Same (d : Made M L) (past : List (Made M L)) (new : List (Made M L)) : Type 0 where
      pub history : IsHistory s new
      pub ends : ends_in s new ≡ y.go (ends_in s past) d.move

    same : (d : Made M L) (past : List (Made M L)) → IsHistory s (d ∷ past) → Same d past (placed d past)
    same d [] h = record { history = h; ends = refl }
    same d (p ∷ past) h = elim (may_follow y (p ∷ past) d) as (λ t. may_follow y (p ∷ past) d ≡ t → Same d (p ∷ past) (if t then d ∷ p ∷ past else p ∷ placed d past)) [
      | true ↦ λ is. record { history = h; ends = refl }
      | false ↦ λ is.
          let x = ends_in s past in
          let independent : y.independent (y.label x p.move) (y.label (y.go x p.move) d.move) ≡ true =
          ap (λ l. y.independent l (y.label (y.go x p.move) d.move)) h.1.0 ∙ ap (λ l. y.independent p.label l) h.0 ∙ (goes d p past is).independent in
          let rest = same d past (law.before x p.move d.move (stays past) independent ∙ h.0, h.1.1) in
          record {
            history = (ap (λ z. y.label z p.move) rest.ends ∙ law.afterwards x p.move d.move (stays past) independent ∙ h.1.0, rest.history);
            ends = ap (λ z. y.go z p.move) rest.ends ∙ law.same x p.move d.move (stays past) independent;
          }
    ] refl

    -- ---- each history, sorted
    pub record Sorted (x : S) (most : ℕ) : Type 0 where
      pub history : List (Made M L)
      pub is_history : IsHistory s history
      pub is_sorted : IsPlaced history
      pub all_work : EachWorks history
      pub ends : ends_in s history ≡ x
      pub no_more : length history ≤ most

    -- after one more move
    one_more : (x : S) (most : ℕ) (m : M) → Sorted x most → Sorted (y.go x m) (suc most)
    one_more x most m h = elim (y.works (y.label x m)) as (λ w. y.works (y.label x m) ≡ w → Sorted (y.go x m) (suc most)) [
      | true ↦ λ w.
          let d : Made M L = made_in y x m in
          let moved = same d h.history (ap (λ z. y.label z m) h.ends, h.is_history) in
          record {
            history = placed d h.history;
            is_history = moved.history;
            is_sorted = sorted d h.history h.is_sorted;
            all_work = work d h.history w h.all_work;
            ends = moved.ends ∙ ap (λ z. y.go z m) h.ends;
            no_more = let less = h.no_more in let is = long d h.history in omega (arith, less, is);
          }
      | false ↦ λ w.
          let still : y.go x m ≡ x = law.idle x m (subst P h.ends (stays h.history)) w in
          record {
            history = h.history;
            is_history = h.is_history;
            is_sorted = h.is_sorted;
            all_work = h.all_work;
            ends = h.ends ∙ sym still;
            no_more = let less = h.no_more in omega (arith, less);
          }
    ] refl

    each_more : (ms : List M) (x : S) (most : ℕ) → Sorted x most → Sorted (reached y x ms) (most + length ms)
    each_more [] x most h = record { history = h.history; is_history = h.is_history; is_sorted = h.is_sorted; all_work = h.all_work; ends = h.ends; no_more = let less = h.no_more in omega (arith, less) }
    each_more (m ∷ ms) x most h =
        subst (λ (n : ℕ). Sorted (reached y (y.go x m) ms) n) (let is : suc most + length ms ≡ most + suc (length ms) = omega arith in is) (each_more ms (y.go x m) (suc most) (one_more x most m h))

    -- ---- a sorted history in the order of its moves
    -- the moves, the first of them first, before these
    abbrev pub in_order : List (Made M L) → List M → List M
    in_order [] ms = ms
    in_order (d ∷ past) ms = in_order past (d.move ∷ ms)

    comes : (past : List (Made M L)) (ms : List M) → reached y s (in_order past ms) ≡ reached y (ends_in s past) ms
    comes [] ms = refl
    comes (d ∷ past) ms = comes past (d.move ∷ ms)

    length-in_order : (past : List (Made M L)) (ms : List M) → length (in_order past ms) ≡ length past + length ms
    length-in_order [] ms = let is : length ms ≡ 0 + length ms = omega arith in is
    length-in_order (d ∷ past) ms = let rest = length-in_order past (d.move ∷ ms) in omega (arith, rest)

    in_order_sorted : (past : List (Made M L)) (ms : List M) → IsHistory s past → IsPlaced past → EachWorks past → IsSorted y past (ends_in s past) ms → IsSorted y [] s (in_order past ms)
    in_order_sorted [] ms history sort all h = h
    in_order_sorted (d ∷ past) ms history sort all h =
        let made : made_in y (ends_in s past) d.move ≡ d = ap (λ (l : L). record { move = d.move; label = l }) history.0 in
        in_order_sorted past (d.move ∷ ms) history.1 sort.1 all.1
        (ap y.works history.0 ∙ all.0, ap (may_follow y past) made ∙ sort.0, subst (λ (e : Made M L). IsSorted y (e ∷ past) (ends_in s (d ∷ past)) ms) (sym made) h)

    pub has_sorted : (ms : List M) → HasSorted y s ms
    has_sorted ms =
        let h : Sorted (reached y s ms) (0 + length ms) = each_more ms s 0 (record { history = []; is_history = tt; is_sorted = tt; all_work = tt; ends = refl; no_more = let z : 0 ≤ 0 = omega arith in z }) in
        record {
          moves = in_order h.history [];
          sorted = in_order_sorted h.history [] h.is_history h.is_sorted h.all_work tt;
          same = comes h.history [] ∙ h.ends;
          no_more = let less = h.no_more in let is = length-in_order h.history [] in omega (arith, less, is);
        }
