-- A level is shared out, and what each share found is put together.
use Rattle.std.proofs.Common.{arith, ◌≡◌, ◌∙◌, ◌++◌, ◌∷◌, [], ◌+◌, ◌*◌, ◌<◌, ◌≤◌, ℕ, zero, suc, List, take, drop, length, refl, sym, ap, subst}
use Rattle.std.specs.Prelude.{Result, Ok, Err, IfOk, min, slice_index_or}
use Rattle.std.specs.Global.{Vec}
use Rattle.std.proofs.lemmas.List.{append_assoc, drop-drop, drop-take, take-append-drop, take-take, take_all}
use Rattle.state_search.specs.declared.moves.Found.{Found}
use Rattle.explored_runs.specs.Answering.{AreAfter, AreJoined}
use Rattle.explored_runs.specs.declared.runs.After.{After}
use Rattle.explored_runs.specs.declared.runs.Runs.{Runs}
use Rattle.explored_runs.proofs.Answered.{together}

-- one share more
pub joined_more : {E : Type 0} (shares : List (Result (Vec After) E)) (all : List After) (xs : Vec After) → AreJoined shares all → AreJoined (shares ++ Ok xs ∷ []) (all ++ xs.items)
joined_more [] all xs is = ([], ap (λ (ys : List After). ys ++ xs.items) is ∙ sym (nil_right xs.items), refl)
  where
    nil_right : (ys : List After) → ys ++ [] ≡ ys
    nil_right [] = refl
    nil_right (y ∷ ys) = ap (λ (zs : List After). y ∷ zs) (nil_right ys)
joined_more (Ok ys ∷ shares) all xs is = (
  is.0 ++ xs.items,
  ap (λ (zs : List After). zs ++ xs.items) is.1 ∙ append_assoc ys.items is.0 xs.items,
  joined_more shares is.0 xs is.2,
)
joined_more (Err why ∷ shares) all xs is = absurd is

-- pieces of this size are as many as they have to be
pub enough : (l size q r : ℕ) → q * size + r ≡ l → r < size → l ≤ (q + min 1 r) * size
enough l size q zero is less = let all : (q + 0) * size ≡ q * size = grind arith in omega (arith, is, all)
enough l size q (suc r) is less =
    let one : min 1 (suc r) ≡ 1 = omega arith in
    let all : (q + 1) * size ≡ q * size + size = grind arith in
    subst (λ m. l ≤ (q + m) * size) (sym one) (omega (arith, is, all, less))

take_plus : {X : Type 0} (a b : ℕ) (xs : List X) → take (a + b) xs ≡ take a xs ++ take b (drop a xs)
take_plus {X = X} a b xs =
    sym (take-append-drop a (take (a + b) xs))
    ∙ ap (λ (ys : List X). ys ++ drop a (take (a + b) xs)) (take-take a (a + b) xs (omega arith))
    ∙ ap (λ (ys : List X). take a xs ++ ys) (drop-take a b xs)

module _ (r : Runs) {E : Type 0} where
  -- what was found of a piece, where there was no fault
  abbrev pub Finds : List (Found (Vec ℕ)) → Result (Vec After) E → Type 0
  Finds piece (Ok xs) = AreAfter r piece xs.items
  Finds piece (Err why) = Unit {0}

  -- a share is answered where it has no fault
  pub found_of : (piece : List (Found (Vec ℕ))) (x : Result (Vec After) E) → IfOk x (λ xs. AreAfter r piece xs.items)
      → Finds piece x
  found_of piece (Ok xs) is = is
  found_of piece (Err why) is = tt

abbrev pub piece_of : List (Found (Vec ℕ)) → ℕ → ℕ → List (Found (Vec ℕ))
piece_of level size k = take size (drop (k * size) level)

module _ (r : Runs) (level : List (Found (Vec ℕ))) (size : ℕ) {E : Type 0} where
  -- from the k-th share on
  from_share : (shares : List (Result (Vec After) E)) (k : ℕ) (all : List After) → AreJoined shares all
      → ((n : ℕ) (d : Result (Vec After) E) → n < length shares → Finds r (piece_of level size (k + n)) (slice_index_or shares n d))
      → AreAfter r (take (length shares * size) (drop (k * size) level)) all
  from_share [] k all is each =
      let none : 0 * size ≡ 0 = omega arith in
      subst (λ j. AreAfter r (take j (drop (k * size) level)) all) (sym none) (subst (λ (xs : List After). AreAfter r [] xs) (sym is) tt)
  from_share (Err why ∷ shares) k all is each = absurd is
  from_share (Ok xs ∷ shares) k all is each =
      let here = drop (k * size) level in
      let first : AreAfter r (take size here) xs.items = subst (λ j. AreAfter r (piece_of level size j) xs.items) (let zero : k + 0 ≡ k = omega arith in zero) (each 0 (Ok xs) (omega arith)) in
      let later = from_share shares (k + 1) is.0 is.2
      (λ n d below. subst (λ j. Finds r (piece_of level size j) (slice_index_or shares n d)) (let next : k + suc n ≡ k + 1 + n = omega arith in next) (each (suc n) d (omega (arith, below)))) in
      let steps : k * size + size ≡ (k + 1) * size = more_times k in
      let moved : drop ((k + 1) * size) level ≡ drop size here = ap (λ j. drop j level) (sym steps) ∙ sym (drop-drop size (k * size) level) in
      let sizes : suc (length shares) * size ≡ size + length shares * size = times_more (length shares) in
      subst (λ (ys : List After). AreAfter r (take (suc (length shares) * size) here) ys) (sym is.1)
      (subst (λ (fs : List (Found (Vec ℕ))). AreAfter r fs (xs.items ++ is.0)) (sym (ap (λ j. take j here) sizes ∙ take_plus size (length shares * size) here))
      (together r (take size here) (take (length shares * size) (drop size here)) xs.items is.0 first
      (subst (λ (fs : List (Found (Vec ℕ))). AreAfter r (take (length shares * size) fs) is.0) moved later)))
    where
      more_times : (j : ℕ) → j * size + size ≡ (j + 1) * size
      more_times j = grind arith

      times_more : (j : ℕ) → suc j * size ≡ size + j * size
      times_more j = grind arith

  -- all shares
  pub all_shares : (shares : List (Result (Vec After) E)) (all : List After) → AreJoined shares all
      → ((n : ℕ) (d : Result (Vec After) E) → n < length shares → Finds r (piece_of level size n) (slice_index_or shares n d))
      → length level ≤ length shares * size → AreAfter r level all
  all_shares shares all is each many =
      let none : 0 * size ≡ 0 = omega arith in
      let whole : drop (0 * size) level ≡ level = ap (λ j. drop j level) none in
      subst (λ (fs : List (Found (Vec ℕ))). AreAfter r fs all) (take_all (length shares * size) level many)
      (subst (λ (fs : List (Found (Vec ℕ))). AreAfter r (take (length shares * size) fs) all) whole
      (from_share shares 0 all is (λ n d below. subst (λ j. Finds r (piece_of level size j) (slice_index_or shares n d)) (let here : n ≡ 0 + n = omega arith in here) (each n d below))))
