-- A search of calls by keys that tell states apart is a search as `order_laws` has it, and so are all parts of one together.
use Rattle.std.proofs.Common.{arith, ◌≡◌, ◌∙◌, ◌++◌, ◌∷◌, [], ◌+◌, ◌<◌, ◌≤◌, ℕ, List, Bool, true, map, append-nil, refl, sym, ap, subst, inl, inr}
use Rattle.std.specs.List.{All, Contains}
use Rattle.std.proofs.lemmas.List.Elements.{All-nil, All-cons, All-weaker, All-map, All-contains, All-contains_itself, Contains-append_left, Contains-append_right, Contains-append_cases, Contains-push, Contains-push_cases}
use Rattle.kernel_model.specs.Limits.{AreNumbered}
use Rattle.kernel_model.specs.World.{Boot}
use Rattle.kernel_model.proofs.Numbering.{numbered_first}
use Rattle.order_laws.specs.Moves.{Seen, calls}
use Rattle.order_laws.specs.Outcomes.{AllStand, Stand}
use Rattle.order_laws.specs.Privacy.{IsPrivate}
use Rattle.order_laws.specs.Searches.{FoundState, HasState, IsSearchOf, LeftNone, WentOnFrom}
use Rattle.order_laws.proofs.Calls.{calls_commute}
use Rattle.order_laws.proofs.Choosing.{found_end}
use Rattle.order_laws.proofs.Outcomes.{outcomes}
use Rattle.order_laws.proofs.Private.{stays_private}
use Rattle.replayed_runs.specs.Replays.{start}
use Rattle.state_search.specs.Searches.{AreWhole, HasKey, HasSearched, IsPart, IsSearched, WentOn}
use Rattle.state_search.specs.Sharing.{HasShare}
use Rattle.state_search.specs.declared.key.Key.{Key}
use Rattle.state_search.specs.declared.moves.Found.{Found}
use Rattle.state_search.specs.declared.moves.Reached.{Reached}
use Rattle.explored_runs.specs.CallSearches.{AnswersCalls, AreFound, FindsAll, FindsByKeys, FindsItsPart, GoesOn, IsAnswered, KeysTell, TellsApart, seen_in, state_in}

module _ {X Y : Type 0} (g : X → Y) where
  each_mapped : (xs : List X) → All (λ x. Contains (map g xs) (g x)) xs
  each_mapped [] = All-nil (λ x. Contains [] (g x))
  each_mapped (x ∷ xs) =
      All-cons (λ z. Contains (g x ∷ map g xs) (g z)) x xs (Contains-append_left (g x ∷ []) (map g xs) (g x) (Contains-push [] (g x)))
      (All-weaker (λ z. Contains (map g xs) (g z)) (λ z. Contains (g x ∷ map g xs) (g z)) (λ z is. Contains-append_right (g x ∷ []) (map g xs) (g z) is) xs (each_mapped xs))

  -- what is made of an element is an element of what is made
  pub mapped : (xs : List X) (x : X) → Contains xs x → Contains (map g xs) (g x)
  mapped xs x is = All-contains (λ z. Contains (map g xs) (g z)) xs x (each_mapped xs) is

  -- and each of these is made of an element
  abbrev pub IsMade : List X → Y → Type 0
  IsMade xs y = (x : X) × Contains xs x × (g x ≡ y)

  pub made : (xs : List X) (y : Y) → Contains (map g xs) y → IsMade xs y
  made xs y is = All-contains (λ z. IsMade xs z) (map g xs) y
      (All-map (λ z. IsMade xs z) g xs (All-weaker (λ x. Contains xs x) (λ x. IsMade xs (g x)) (λ x here. (x, here, refl)) xs (All-contains_itself xs))) is

-- a list of one element has no other
pub only : {X : Type 0} (x y : X) → Contains (x ∷ []) y → x ≡ y
only x y is = elim (Contains-push_cases [] x y is) as (λ _. x ≡ y) [
  | inl none ↦ absurd (let within = none.1 in let no : ⊥ = omega (arith, within) in no)
  | inr same ↦ same
]

module _ {S : Type 0} (begins : Reached S → Type 0) (expands : List (Found S) → List (Reached S) → Bool → Type 0) (gone left others : List (Found S)) (depth : ℕ) (is_whole : Bool)
    (searched : IsPart begins expands gone left others depth) (whole : is_whole ≡ true → AreWhole searched.answers) where
  module _ (n : ℕ) (b : Boot) (seen : S → Seen) (all : List (Found S)) (answered : AnswersCalls n b seen searched.first searched.answers)
      (tell : KeysTell seen searched.first searched.answers all) (are : AreFound (others ++ (gone ++ left)) all) where
    -- a key that the part found is one that all parts have
    in_all : (k : Key) (most : ℕ) → HasKey (others ++ (gone ++ left)) k most → HasKey all k most
    in_all k most h =
        let one = are h.one h.is_found in
        let near : one.one.moves ≤ most = omega (arith, one.near, h.near) in
        record { one = one.one; is_found = one.is_found; same_key = one.same_key ∙ h.same_key; near = near }

    by_key : (r : Reached S) (t : Seen) (most : ℕ) → TellsApart seen all r → seen r.state ≡ t → HasKey (others ++ (gone ++ left)) r.key most → HasState (seen_in seen all) t most
    by_key r t most tells is found =
        let h = in_all r.key most found in
        record { one = state_in seen h.one; is_found = mapped (state_in seen) all h.one h.is_found; same = tells h.one h.is_found h.same_key ∙ is; near = h.near }

    -- how it went on from a state that is in one of the answers
    went_on : (f : Found S) → WentOn searched.answers f → WentOnFrom (calls n) IsPrivate (seen_in seen all) (state_in seen f)
    went_on f went =
        let a = went.answer in
        let there : (t : Seen) → IsAnswered seen a.next t → HasState (seen_in seen all) t (f.moves + 1) =
        λ t r. by_key r.0 t (f.moves + 1) (tell.each a went.is_answer r.0 r.1) r.2 (searched.found.each a went.is_answer f went.is_in r.0 r.1) in
        elim (answered.each a went.is_answer f went.is_in) as (λ _. WentOnFrom (calls n) IsPrivate (seen_in seen all) (state_in seen f)) [
          | inl own ↦ inl (own.0, own.1, there ((calls n).go (seen f.state) own.0) own.2)
          | inr each ↦ inr (λ p works. there ((calls n).go (seen f.state) p) (each p works))
        ]

    -- each process stands in a state of an answer of which no move was left out
    stands_in : (f : Found S) → WentOn searched.answers f → is_whole ≡ true → Stand (seen f.state)
    stands_in f went is =
        let a = went.answer in
        answered.stand a went.is_answer (whole is a went.is_answer) (state_in seen f) (mapped (state_in seen) a.level f went.is_in)

    gone_stand : is_whole ≡ true → AllStand (seen_in seen gone)
    gone_stand is g among =
        let f = made (state_in seen) gone g among in
        subst (λ (h : FoundState Seen). Stand h.state) f.2 (stands_in f.0 (searched.found.goes_on f.0 f.1) is)

    goes_on : GoesOn n b seen gone all is_whole
    goes_on = record {
      begins = by_key searched.first (start n b) 0 tell.begin answered.begins searched.found.begins;
      goes_on = λ f is. went_on f (searched.found.goes_on f is);
      stand = gone_stand;
    }

-- so a part goes on, of which it says how many states it went on from
pub finds_its_part : {S : Type 0} (begins : Reached S → Type 0) (expands : List (Found S) → List (Reached S) → Bool → Type 0) (number of many : ℕ) (left others : List (Found S)) (depth : ℕ) (is_whole : Bool)
    → HasShare begins expands number of many left others depth is_whole → FindsItsPart begins expands number of many left others depth is_whole
finds_its_part begins expands number of many left others depth is_whole has = record {
  searched = has.searched;
  shared = has.shared;
  finds = goes_on begins expands has.searched.gone_on left others depth is_whole has.searched.part has.searched.whole;
}

-- ---- a search is its only part
module _ {S : Type 0} (begins : Reached S → Type 0) (expands : List (Found S) → List (Reached S) → Bool → Type 0) (gone left : List (Found S)) (depth : ℕ) (is_whole : Bool)
    (searched : IsSearched begins expands gone left depth) (whole : is_whole ≡ true → AreWhole searched.answers) where
  abbrev found : List (Found S)
  found = gone ++ left

  -- where it left none, it went on from each
  all_gone : left ≡ [] → found ≡ gone
  all_gone none = ap (λ (fs : List (Found S)). gone ++ fs) none ∙ append-nil gone

  module _ (n : ℕ) (b : Boot) (seen : S → Seen) (answered : AnswersCalls n b seen searched.first searched.answers) (tell : KeysTell seen searched.first searched.answers found) where
    goes : GoesOn n b seen gone found is_whole
    goes = goes_on begins expands gone left [] depth is_whole searched whole n b seen found answered tell
        (λ f is. record { one = f; is_found = is; same_key = refl; near = omega arith })

    from_each : (f : Found S) → Contains found f → f.moves < depth → WentOnFrom (calls n) IsPrivate (seen_in seen found) (state_in seen f)
    from_each f is near = elim (Contains-append_cases gone left f is) as (λ _. WentOnFrom (calls n) IsPrivate (seen_in seen found) (state_in seen f)) [
      | inl before ↦ goes.goes_on f before
      | inr late ↦ let at = searched.found.farthest f late in absurd (let no : ⊥ = omega (arith, near, at) in no)
    ]

    all_searched : IsSearchOf (calls n) IsPrivate (start n b) (seen_in seen found) depth
    all_searched = record {
      begins = goes.begins;
      goes_on = λ g is near.
          let f = made (state_in seen) found g is in
          subst (λ (h : FoundState Seen). WentOnFrom (calls n) IsPrivate (seen_in seen found) h) f.2
          (from_each f.0 f.1 (subst (λ (h : FoundState Seen). h.moves < depth) (sym f.2) near));
    }

    left_none : left ≡ [] → LeftNone (seen_in seen found) depth
    left_none none g is =
        let f = made (state_in seen) found g is in
        subst (λ (h : FoundState Seen). h.moves < depth) f.2 (searched.found.nearer f.0 (subst (λ (fs : List (Found S)). Contains fs f.0) (all_gone none) f.1))

    finds_all : FindsAll n b seen gone left depth is_whole
    finds_all = record {
      ends = λ ps complete most.
          found_end (calls n) (λ (r : Seen). AreNumbered r.sync.files) (calls_commute n) IsPrivate (stays_private n) (start n b) (seen_in seen found) depth all_searched ps
          (numbered_first b.files) complete (inr most);
      outcomes = λ none is es. outcomes n b (seen_in seen found) depth all_searched (left_none none)
          (subst (λ (fs : List (Found S)). AllStand (seen_in seen fs)) (sym (all_gone none)) (goes.stand is)) es;
    }

-- so it finds all, of which it says how many states it went on from
pub finds_by_keys : {S : Type 0} (begins : Reached S → Type 0) (expands : List (Found S) → List (Reached S) → Bool → Type 0) (many : ℕ) (left : List (Found S)) (depth : ℕ) (is_whole : Bool)
    → HasSearched begins expands many left depth is_whole → FindsByKeys begins expands many left depth is_whole
finds_by_keys begins expands many left depth is_whole has =
    record { searched = has; finds = finds_all begins expands has.gone_on left depth is_whole has.part has.whole }
