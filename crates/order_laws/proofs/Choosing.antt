-- Chosen moves alone come to all that complete orders come to. A search by such moves finds their ends, and a state above each on the way.
use Rattle.std.proofs.Common.{◌≡◌, ℕ, zero, suc, ◌+◌, ◌<◌, ◌≤◌, ◌⊎◌, inl, inr, Bool, true, false, List, [], ◌∷◌, ◌++◌, length, refl, sym, ap, subst, ◌∙◌, arith}
use Rattle.std.specs.List.{All, Contains}
use Rattle.std.specs.Prelude.{max}
use Rattle.std.proofs.lemmas.Bool.{false≢true}
use Rattle.std.proofs.lemmas.List.{length-append}
use Rattle.std.proofs.lemmas.List.Elements.{All-nil, All-cons, All-weaker, All-contains}
use Rattle.order_laws.specs.Orders.{System, reached, Commutes, IsOver, AllWork, IsComplete, IsChoice, HasChosen}
use Rattle.order_laws.specs.Searches.{FoundState, HasState, IsSearchOf, LeftNone}

-- What makes a move a private one, where V says of which moves it is said: it does something, and whatever other move is made, the two
-- are independent, and it stays private.
pub record StaysPrivate {S M L : Type 0} (y : System S M L) (P : S → Type 0) (V : S → M → Type 0) : Type 0 where
  pub works : (s : S) (m : M) → P s → V s m → y.works (y.label s m) ≡ true
  pub others : (s : S) (m x : M) → P s → V s m → y.works (y.label s x) ≡ true
      → (x ≡ m) ⊎ ((y.independent (y.label s x) (y.label (y.go s x) m) ≡ true) × V (y.go s x) m)

-- what is asked of a relation of states: a private move leads up
pub record LeadsUp {S M L : Type 0} (y : System S M L) (P : S → Type 0) (V : S → M → Type 0) (Below : S → S → Type 0) : Type 0 where
  pub itself : (s : S) → Below s s
  pub through : (s t u : S) → Below s t → Below t u → Below s u
  pub up : (s : S) (m : M) → P s → V s m → Below s (y.go s m)

module _ {S M L : Type 0} (y : System S M L) (P : S → Type 0) (law : Commutes y P) where
  -- ---- lists in two parts
  pub reached-append : (xs ys : List M) (s : S) → reached y s (xs ++ ys) ≡ reached y (reached y s xs) ys
  reached-append [] ys s = refl
  reached-append (x ∷ xs) ys s = reached-append xs ys (y.go s x)

  work_left : (xs ys : List M) (s : S) → AllWork y s (xs ++ ys) → AllWork y s xs
  work_left [] ys s h = tt
  work_left (x ∷ xs) ys s h = (h.0, work_left xs ys (y.go s x) h.1)

  work_right : (xs ys : List M) (s : S) → AllWork y s (xs ++ ys) → AllWork y (reached y s xs) ys
  work_right [] ys s h = h
  work_right (x ∷ xs) ys s h = work_right xs ys (y.go s x) h.1

  work_both : (xs ys : List M) (s : S) → AllWork y s xs → AllWork y (reached y s xs) ys → AllWork y s (xs ++ ys)
  work_both [] ys s h k = k
  work_both (x ∷ xs) ys s h k = (h.0, work_both xs ys (y.go s x) h.1 k)

  reached_holds : (ms : List M) (s : S) → P s → P (reached y s ms)
  reached_holds [] s p = p
  reached_holds (m ∷ ms) s p = reached_holds ms (y.go s m) (law.keeps s m p)

  -- those of these moves that do something come to the same
  pub those_that_work : (ms : List M) (s : S) → P s → (ns : List M) × AllWork y s ns × (reached y s ns ≡ reached y s ms)
  those_that_work [] s p = ([], tt, refl)
  those_that_work (m ∷ ms) s p =
      let rest = those_that_work ms (y.go s m) (law.keeps s m p) in
      elim (y.works (y.label s m)) as (λ w. y.works (y.label s m) ≡ w → (ns : List M) × AllWork y s ns × (reached y s ns ≡ reached y s (m ∷ ms))) [
        | true ↦ λ w. (m ∷ rest.0, (w, rest.1), rest.2)
        | false ↦ λ w.
            let still : y.go s m ≡ s = law.idle s m p w in
            (rest.0, subst (λ z. AllWork y z rest.0) still rest.1, ap (λ z. reached y z rest.0) (sym still) ∙ rest.2)
      ] refl

  -- ---- a move that could come first
  -- each of these moves is independent of a move with this label that comes after them
  abbrev pub AreAside : S → List M → L → Type 0
  AreAside s [] l = Unit {0}
  AreAside s (x ∷ xs) l = (y.independent (y.label s x) l ≡ true) × AreAside (y.go s x) xs l

  -- a move is among others, and all before it are independent of it
  pub record CouldComeFirst (s : S) (m : M) (ms : List M) : Type 0 where
    pub ahead : List M
    pub later : List M
    pub is : ms ≡ ahead ++ m ∷ later
    pub aside : AreAside s ahead (y.label (reached y s ahead) m)

  -- what becomes of moves after which it was
  pub record Past (s : S) (m : M) (ahead : List M) : Type 0 where
    pub label : y.label s m ≡ y.label (reached y s ahead) m
    pub same : reached y (y.go s m) ahead ≡ y.go (reached y s ahead) m
    pub work : AllWork y s ahead → AllWork y (y.go s m) ahead

  pub past : (ahead : List M) (s : S) (m : M) → P s → AreAside s ahead (y.label (reached y s ahead) m) → Past s m ahead
  past [] s m p aside = record { label = refl; same = refl; work = λ h. h }
  past (x ∷ ahead) s m p aside =
      let rest = past ahead (y.go s x) m (law.keeps s x p) aside.1 in
      let independent : y.independent (y.label s x) (y.label (y.go s x) m) ≡ true = ap (λ l. y.independent (y.label s x) l) rest.label ∙ aside.0 in
      record {
        label = law.before s x m p independent ∙ rest.label;
        same = ap (λ z. reached y z ahead) (law.same s x m p independent) ∙ rest.same;
        work = λ h. (ap y.works (law.afterwards s x m p independent) ∙ h.0, subst (λ z. AllWork y z ahead) (sym (law.same s x m p independent)) (rest.work h.1));
      }

  -- what is left to be made, once it came first
  pub record Left (s : S) (m : M) (ms : List M) : Type 0 where
    pub rest : List M
    pub ends : reached y (y.go s m) rest ≡ reached y s ms
    pub work : AllWork y s ms → AllWork y (y.go s m) rest
    pub one_less : length ms ≡ suc (length rest)

  pub left : (s : S) (m : M) (ms : List M) → P s → CouldComeFirst s m ms → Left s m ms
  left s m ms p way =
      let moved = past way.ahead s m p way.aside in
      record {
        rest = way.ahead ++ way.later;
        ends = reached-append way.ahead way.later (y.go s m) ∙ ap (λ z. reached y z way.later) moved.same ∙ sym (reached-append way.ahead (m ∷ way.later) s)
            ∙ sym (ap (λ (zs : List M). reached y s zs) way.is);
        work = λ h.
            let all : AllWork y s (way.ahead ++ m ∷ way.later) = subst (λ (zs : List M). AllWork y s zs) way.is h in
            work_both way.ahead way.later (y.go s m) (moved.work (work_left way.ahead (m ∷ way.later) s all))
            (subst (λ z. AllWork y z way.later) (sym moved.same) (work_right way.ahead (m ∷ way.later) s all).1);
        one_less = ap length way.is ∙ (let a = length-append way.ahead way.later in let b = length-append way.ahead (m ∷ way.later) in
            let is : length (way.ahead ++ m ∷ way.later) ≡ suc (length (way.ahead ++ way.later)) = omega (arith, a, b) in is);
      }

  module _ (V : S → M → Type 0) (stays : StaysPrivate y P V) where
    -- ---- private moves
    -- all of these moves are made past a private one, which stays private
    record AllPast (s : S) (m : M) (ms : List M) : Type 0 where
      pub aside : AreAside s ms (y.label (reached y s ms) m)
      pub still : V (reached y s ms) m

    -- a private move is among these, and could come first, or they are all made past it
    walk : (ms : List M) (s : S) (m : M) → P s → V s m → AllWork y s ms → CouldComeFirst s m ms ⊎ AllPast s m ms
    walk [] s m p v all = inr (record { aside = tt; still = v })
    walk (x ∷ ms) s m p v all = elim (stays.others s m x p v all.0) as (λ _. CouldComeFirst s m (x ∷ ms) ⊎ AllPast s m (x ∷ ms)) [
      | inl same ↦ inl (record { ahead = []; later = ms; is = ap (λ (z : M). z ∷ ms) same; aside = tt })
      | inr other ↦
          let next = law.keeps s x p in
          elim (walk ms (y.go s x) m next other.1 all.1) as (λ _. CouldComeFirst s m (x ∷ ms) ⊎ AllPast s m (x ∷ ms)) [
            | inl found ↦
                let label : y.label (y.go s x) m ≡ y.label (reached y (y.go s x) found.ahead) m = (past found.ahead (y.go s x) m next found.aside).label in
                inl (record { ahead = x ∷ found.ahead; later = found.later; is = ap (λ (zs : List M). x ∷ zs) found.is; aside = (sym (ap (λ l. y.independent (y.label s x) l) label) ∙ other.0, found.aside) })
            | inr beyond ↦
                let label : y.label (y.go s x) m ≡ y.label (reached y (y.go s x) ms) m = (past ms (y.go s x) m next beyond.aside).label in
                inr (record { aside = (sym (ap (λ l. y.independent (y.label s x) l) label) ∙ other.0, beyond.aside); still = beyond.still })
          ]
    ]

    -- in a complete order it could come first
    private_first : (ms : List M) (s : S) (m : M) → P s → V s m → IsComplete y s ms → CouldComeFirst s m ms
    private_first ms s m p v complete = elim (walk ms s m p v complete.all) as (λ _. CouldComeFirst s m ms) [
      | inl found ↦ found
      | inr beyond ↦ absurd (false≢true (sym (complete.over m) ∙ stays.works (reached y s ms) m (reached_holds ms s p) beyond.still))
    ]

    module _ (chosen : S → M → Bool) (good : IsChoice y V chosen) where
      -- ---- complete orders
      -- a chosen move that could come first
      record HasFirst (s : S) (ms : List M) : Type 0 where
        pub move : M
        pub picked : chosen s move ≡ true
        pub works : y.works (y.label s move) ≡ true
        pub could : CouldComeFirst s move ms

      has_first : (s : S) (m : M) (ms : List M) → P s → IsComplete y s (m ∷ ms) → HasFirst s (m ∷ ms)
      has_first s m ms p complete = elim (good s) as (λ _. HasFirst s (m ∷ ms)) [
        | inl own ↦ record { move = own.0; picked = own.1; works = stays.works s own.0 p own.2; could = private_first (m ∷ ms) s own.0 p own.2 complete }
        | inr each ↦ record { move = m; picked = each m complete.all.0; works = complete.all.0; could = record { ahead = []; later = ms; is = refl; aside = tt } }
      ]

      pub has_chosen : (size : ℕ) (s : S) (ms : List M) → P s → length ms ≡ size → IsComplete y s ms → HasChosen y chosen s ms
      has_chosen size s [] p long complete = record { moves = []; chosen_each = tt; complete = complete; same = refl; as_many = refl }
      has_chosen zero s (m ∷ ms) p long complete = absurd (let none : ⊥ = omega (arith, long) in none)
      has_chosen (suc size) s (m ∷ ms) p long complete =
          let x = has_first s m ms p complete in
          let l = left s x.move (m ∷ ms) p x.could in
          let size_less = l.one_less in
          let rest = has_chosen size (y.go s x.move) l.rest (law.keeps s x.move p) (omega (arith, size_less, long))
          (record { all = l.work complete.all; over = subst (λ z. IsOver y z) (sym l.ends) complete.over }) in
          record {
            moves = x.move ∷ rest.moves;
            chosen_each = (x.picked, rest.chosen_each);
            complete = record { all = (x.works, rest.complete.all); over = rest.complete.over };
            same = rest.same ∙ l.ends;
            as_many = let k = rest.as_many in omega (arith, k, size_less);
          }

    -- ---- what a search found, which went on from each state by a private move, or by each
    module _ (first : S) (found : List (FoundState S)) (depth : ℕ) (searched : IsSearchOf y V first found depth) where
      -- how it went on from a state to which so many moves lead at most
      abbrev FromHere : S → ℕ → Type 0
      FromHere r k = ((m : M) × V r m × HasState found (y.go r m) (k + 1)) ⊎ ((m : M) → y.works (y.label r m) ≡ true → HasState found (y.go r m) (k + 1))

      -- deep enough to go on
      abbrev GoesOn : ℕ → Type 0
      GoesOn k = LeftNone found depth ⊎ (k < depth)

      from_here : (r : S) (k : ℕ) → HasState found r k → GoesOn k → FromHere r k
      from_here r k h deep =
          let near = h.near in
          let less : h.one.moves < depth = elim deep as (λ _. h.one.moves < depth) [ inl none ↦ none h.one h.is_found | inr within ↦ omega (arith, within, near) ] in
          let farther : (t : S) → HasState found t (h.one.moves + 1) → HasState found t (k + 1) =
          λ t there. record { one = there.one; is_found = there.is_found; same = there.same; near = let most = there.near in omega (arith, most, near) } in
          subst (λ (z : S). FromHere z k) h.same (elim (searched.goes_on h.one h.is_found less) as (λ _. FromHere h.one.state k) [
            | inl own ↦ inl (own.0, own.1, farther (y.go h.one.state own.0) own.2)
            | inr each ↦ inr (λ m works. farther (y.go h.one.state m) (each m works))
          ])

      -- the end of each complete order, in as many moves at most
      ends_there : (size : ℕ) (r : S) (k : ℕ) (ms : List M) → P r → length ms ≡ size → IsComplete y r ms → HasState found r k → LeftNone found depth ⊎ (k + length ms ≤ depth)
          → HasState found (reached y r ms) (k + length ms)
      ends_there size r k [] p long complete h deep = record { one = h.one; is_found = h.is_found; same = h.same; near = let near = h.near in omega (arith, near) }
      ends_there zero r k (m ∷ ms) p long complete h deep = absurd (let none : ⊥ = omega (arith, long) in none)
      ends_there (suc size) r k (m ∷ ms) p long complete h deep =
          let here : GoesOn k = elim deep as (λ _. GoesOn k) [ inl none ↦ inl none | inr within ↦ inr (omega (arith, within)) ] in
          elim (from_here r k h here) as (λ _. HasState found (reached y r (m ∷ ms)) (k + length (m ∷ ms))) [
            | inl own ↦
                let l = left r own.0 (m ∷ ms) p (private_first (m ∷ ms) r own.0 p own.1 complete) in
                let size_less = l.one_less in
                let over : IsOver y (reached y (y.go r own.0) l.rest) = subst (λ z. IsOver y z) (sym l.ends) complete.over in
                let there : LeftNone found depth ⊎ (k + 1 + length l.rest ≤ depth) =
                elim deep as (λ _. LeftNone found depth ⊎ (k + 1 + length l.rest ≤ depth)) [ inl none ↦ inl none | inr within ↦ inr (omega (arith, within, size_less)) ] in
                let end = ends_there size (y.go r own.0) (k + 1) l.rest (law.keeps r own.0 p) (omega (arith, size_less, long)) (record { all = l.work complete.all; over = over }) own.2 there in
                let most = end.near in
                record { one = end.one; is_found = end.is_found; same = end.same ∙ l.ends; near = omega (arith, most, size_less) }
            | inr each ↦
                let there : LeftNone found depth ⊎ (k + 1 + length ms ≤ depth) =
                elim deep as (λ _. LeftNone found depth ⊎ (k + 1 + length ms ≤ depth)) [ inl none ↦ inl none | inr within ↦ inr (omega (arith, within)) ] in
                let end = ends_there size (y.go r m) (k + 1) ms (law.keeps r m p) (omega (arith, long)) (record { all = complete.all.1; over = complete.over }) (each m complete.all.0) there in
                let most = end.near in
                record { one = end.one; is_found = end.is_found; same = end.same; near = omega (arith, most) }
          ]

      pub found_end : (ms : List M) → P first → IsComplete y first ms → LeftNone found depth ⊎ (length ms ≤ depth) → HasState found (reached y first ms) (length ms)
      found_end ms p complete deep =
          let within : LeftNone found depth ⊎ (0 + length ms ≤ depth) = elim deep as (λ _. LeftNone found depth ⊎ (0 + length ms ≤ depth)) [ inl none ↦ inl none | inr most ↦ inr (omega (arith, most)) ] in
          let end = ends_there (length ms) first 0 ms p refl complete searched.begins within in
          let most = end.near in
          record { one = end.one; is_found = end.is_found; same = end.same; near = omega (arith, most) }

      -- where it left none, and states grow by moves, it found a state above each that moves come to
      module _ (none : LeftNone found depth) (size : S → ℕ) (grows : (s : S) (m : M) → P s → y.works (y.label s m) ≡ true → size s < size (y.go s m)) where
        abbrev greatest : List (FoundState S) → ℕ
        greatest [] = 0
        greatest (f ∷ fs) = max (size f.state) (greatest fs)

        none_greater : (fs : List (FoundState S)) → All (λ (f : FoundState S). size f.state ≤ greatest fs) fs
        none_greater [] = All-nil (λ (f : FoundState S). size f.state ≤ 0)
        none_greater (f ∷ fs) =
            All-cons (λ (g : FoundState S). size g.state ≤ max (size f.state) (greatest fs)) f fs (let most : size f.state ≤ max (size f.state) (greatest fs) = omega arith in most)
            (All-weaker (λ (g : FoundState S). size g.state ≤ greatest fs) (λ (g : FoundState S). size g.state ≤ max (size f.state) (greatest fs)) (λ g le. omega (arith, le)) fs (none_greater fs))

        most : (r : S) (k : ℕ) → HasState found r k → size r ≤ greatest found
        most r k h = subst (λ (z : S). size z ≤ greatest found) h.same (All-contains (λ (f : FoundState S). size f.state ≤ greatest found) found h.one (none_greater found) h.is_found)

        module _ (Below : S → S → Type 0) (up : LeadsUp y P V Below) where
          -- a state above this one was found
          abbrev HasAbove : S → Type 0
          HasAbove x = (f : FoundState S) × Contains found f × Below x f.state

          above_from : (fewer : ℕ) (r : S) (k : ℕ) (ms : List M) → P r → HasState found r k → greatest found ≤ size r + fewer → AllWork y r ms → HasAbove (reached y r ms)
          above_from fewer r k [] p h le all = (h.one, h.is_found, subst (λ z. Below z h.one.state) h.same (up.itself h.one.state))
          above_from zero r k (m ∷ ms) p h le all = elim (from_here r k h (inl none)) as (λ _. HasAbove (reached y r (m ∷ ms))) [
            | inl own ↦
                let more = grows r own.0 p (stays.works r own.0 p own.1) in
                let at_most = most (y.go r own.0) (k + 1) own.2 in
                absurd (let no : ⊥ = omega (arith, le, more, at_most) in no)
            | inr each ↦
                let more = grows r m p all.0 in
                let at_most = most (y.go r m) (k + 1) (each m all.0) in
                absurd (let no : ⊥ = omega (arith, le, more, at_most) in no)
          ]
          above_from (suc fewer) r k (m ∷ ms) p h le all = elim (from_here r k h (inl none)) as (λ _. HasAbove (reached y r (m ∷ ms))) [
            | inr each ↦
                let more = grows r m p all.0 in
                above_from fewer (y.go r m) (k + 1) ms (law.keeps r m p) (each m all.0) (omega (arith, le, more)) all.1
            | inl own ↦
                let x = own.0 in
                let more = grows r x p (stays.works r x p own.1) in
                let next = law.keeps r x p in
                let le' : greatest found ≤ size (y.go r x) + fewer = omega (arith, le, more) in
                elim (walk (m ∷ ms) r x p own.1 all) as (λ _. HasAbove (reached y r (m ∷ ms))) [
                  | inl could ↦
                      let l = left r x (m ∷ ms) p could in
                      subst (λ z. HasAbove z) l.ends (above_from fewer (y.go r x) (k + 1) l.rest next own.2 le' (l.work all))
                  | inr beyond ↦
                      let end = reached y r (m ∷ ms) in
                      let moved = past (m ∷ ms) r x p beyond.aside in
                      let a = above_from fewer (y.go r x) (k + 1) (m ∷ ms) next own.2 le' (moved.work all) in
                      (a.0, a.1, up.through end (y.go end x) a.0.state (up.up end x (reached_holds (m ∷ ms) r p) beyond.still) (subst (λ z. Below z a.0.state) moved.same a.2))
                ]
          ]

          pub found_above : (ms : List M) → P first → HasAbove (reached y first ms)
          found_above ms p =
              let working = those_that_work ms first p in
              subst (λ z. HasAbove z) working.2
              (above_from (greatest found) first 0 working.0 p searched.begins (let le : greatest found ≤ size first + greatest found = omega arith in le) working.1)
