-- How a search begins, goes on by a level, and leaves states to other parts.
use Rattle.std.proofs.Common.{arith, ◌≡◌, ◌⊎◌, ◌∙◌, ◌++◌, ◌∷◌, [], ◌+◌, ◌<◌, ◌≤◌, ◌&&◌, ℕ, List, length, Bool, true, false, sym, ap, subst, inl, inr}
use Rattle.std.specs.List.{Contains}
use Rattle.std.specs.HashSet.{HashSet}
use Rattle.std.proofs.lemmas.Bool.{and_parts}
use Rattle.std.proofs.lemmas.List.Elements.{Contains-append_left, Contains-append_right, Contains-append_cases, Contains-push, Contains-push_cases}
use Rattle.state_search.specs.Adding.{AreAdded, one_if}
use Rattle.state_search.specs.Going.{AreLeft, IsGoing, IsParted}
use Rattle.state_search.specs.Keys.{has}
use Rattle.state_search.specs.Searches.{Answer, Came, ComesOf, HasKey, HasPart, IsFirst, WentOn, times}
use Rattle.state_search.specs.declared.key.Key.{Key}
use Rattle.state_search.specs.declared.moves.Found.{Found}
use Rattle.state_search.specs.declared.moves.Reached.{Reached}
use Rattle.state_search.proofs.Counting.{at-most-once, one-of, times-append}

-- nothing is in an empty list
none-in : {X : Type 0} (x : X) → Contains [] x → ⊥
none-in x is = let within = is.1 in omega (arith, within)

-- the only element of a list
only-one : {X : Type 0} (x y : X) → Contains (x ∷ []) y → x ≡ y
only-one {X = X} x y is = by-cases (Contains-push_cases [] x y is)
  where
    by-cases : Contains [] y ⊎ (x ≡ y) → x ≡ y
    by-cases (inl none) = absurd (none-in y none)
    by-cases (inr same) = same

module _ {S Z : Type 0} (begins : Reached S → Type 0) (expands : List (Found S) → List (Reached S) → Bool → Type 0) (none known : HashSet Key Z) (r : Reached S)
    (left : List (Found S)) (empty : (k : Key) → has none k ≡ false) (adds : AreAdded none known (r ∷ []) left 0) (is_first : begins r) where
  knows-first : (k : Key) → times k left ≡ one_if (has known k)
  knows-first k = let counts = adds.counts k in let none-there = ap one_if (empty k) in omega (arith, counts, none-there)

  first-found : HasKey left r.key 0
  first-found =
      let one = one-of r.key left (knows-first r.key ∙ ap one_if (adds.all r (Contains-push [] r))) in
      let at = adds.near one.one one.is_found in
      record { one = one.one; is_found = one.is_found; same_key = one.same_key; near = omega (arith, at) }

  first-only : (f : Found S) → Contains left f → IsFirst r f
  first-only f is =
      let was = adds.sound f is in
      let same = sym (only-one r was.from was.is_reached) in
      record {
        same_state = was.same_state ∙ ap (λ (x : Reached S). x.state) same;
        same_key = was.same_key ∙ ap (λ (x : Reached S). x.key) same;
        here = adds.near f is;
      }

  -- the first state alone
  pub begins-with : IsGoing begins expands known [] left [] 0 true
  begins-with = record {
    searched = record {
      first = r;
      is_first = is_first;
      answers = [];
      are_answers = λ a is. absurd (none-in a is);
      found = record {
        begins = first-found;
        levels = λ a is. absurd (none-in a is);
        each = λ a is. absurd (none-in a is);
        goes_on = λ f is. absurd (none-in f is);
        nearer = λ f is. absurd (none-in f is);
        farthest = adds.near;
        passed = λ f is. absurd (none-in f is);
        comes = λ f is. inl (first-only f is);
      };
      once = λ k. at-most-once (times k left) (has known k) (knows-first k);
    };
    knows = knows-first;
    whole = λ _ a is. absurd (none-in a is);
  }

module _ {S : Type 0} (others xs ys : List (Found S)) where
  -- a state that was found is still there where others are found, and so are these
  still-there : (f : Found S) → Contains (others ++ xs) f → Contains (others ++ (xs ++ ys)) f
  still-there f is = elim (Contains-append_cases others xs f is) as (λ _. Contains (others ++ (xs ++ ys)) f) [
    | inl other ↦ Contains-append_left others (xs ++ ys) f other
    | inr before ↦ Contains-append_right others (xs ++ ys) f (Contains-append_left xs ys f before)
  ]

  now-there : (f : Found S) → Contains ys f → Contains (others ++ (xs ++ ys)) f
  now-there f is = Contains-append_right others (xs ++ ys) f (Contains-append_right xs ys f is)

  -- and no other is
  was-or-now : (f : Found S) → Contains (others ++ (xs ++ ys)) f → Contains (others ++ xs) f ⊎ Contains ys f
  was-or-now f is = elim (Contains-append_cases others (xs ++ ys) f is) as (λ _. Contains (others ++ xs) f ⊎ Contains ys f) [
    | inl other ↦ inl (Contains-append_left others xs f other)
    | inr found ↦ elim (Contains-append_cases xs ys f found) as (λ _. Contains (others ++ xs) f ⊎ Contains ys f) [
      | inl before ↦ inl (Contains-append_right others xs f before)
      | inr late ↦ inr late
    ]
  ]

  still-found : (k : Key) (most : ℕ) → HasKey (others ++ xs) k most → HasKey (others ++ (xs ++ ys)) k most
  still-found k most h = record { one = h.one; is_found = still-there h.one h.is_found; same_key = h.same_key; near = h.near }

module _ {S Z : Type 0} (begins : Reached S → Type 0) (expands : List (Found S) → List (Reached S) → Bool → Type 0) (old new : HashSet Key Z)
    (gone left others added : List (Found S)) (next : List (Reached S)) (depth : ℕ) (was_whole is_whole : Bool)
    (going : IsGoing begins expands old gone left others depth was_whole) (expanded : expands left next is_whole) (adds : AreAdded old new next added (depth + 1)) where
  abbrev before : List (Found S)
  before = gone ++ left

  abbrev all : List (Found S)
  all = others ++ (before ++ added)

  knows-now : (k : Key) → times k all ≡ one_if (has new k)
  knows-now k =
      let counts = adds.counts k in
      let knew = going.knows k in
      let then-all = times-append k others before in
      let now-all = times-append k others (before ++ added) in
      let more = times-append k before added in
      omega (arith, counts, knew, then-all, now-all, more)

  abbrev was : ComesOf going.searched.first going.searched.answers gone left others depth
  was = going.searched.found

  abbrev now : Answer S
  now = record { level = left; next = next; is_whole = is_whole }

  abbrev answers : List (Answer S)
  answers = going.searched.answers ++ now ∷ []

  -- an answer is an earlier one or this one
  by-answer : (Q : Answer S → Type 0) → ((a : Answer S) → Contains going.searched.answers a → Q a) → Q now → (a : Answer S) → Contains answers a → Q a
  by-answer Q earlier here a is = by-cases (Contains-push_cases going.searched.answers now a is)
    where
      by-cases : Contains going.searched.answers a ⊎ (now ≡ a) → Q a
      by-cases (inl past) = earlier a past
      by-cases (inr same) = subst Q same here

  -- a state that was found before is one of those from which it went on, or of those that it left
  by-state : (Q : Found S → Type 0) → ((f : Found S) → Contains gone f → Q f) → ((f : Found S) → Contains left f → Q f) → (f : Found S) → Contains (gone ++ left) f → Q f
  by-state Q early late f is = by-cases (Contains-append_cases gone left f is)
    where
      by-cases : Contains gone f ⊎ Contains left f → Q f
      by-cases (inl earlier) = early f earlier
      by-cases (inr last) = late f last

  nearer-now : (f : Found S) → Contains (gone ++ left) f → f.moves < depth + 1
  nearer-now = by-state (λ f. f.moves < depth + 1) (λ f is. let near = was.nearer f is in omega (arith, near)) (λ f is. let at = was.farthest f is in omega (arith, at))

  passed-now : (f : Found S) → Contains others f → f.moves ≤ depth + 1
  passed-now f is = let near = was.passed f is in omega (arith, near)

  near-now : (f : Found S) → Contains all f → f.moves ≤ depth + 1
  near-now f is = elim (Contains-append_cases others (before ++ added) f is) as (λ _. f.moves ≤ depth + 1) [
    | inl other ↦ passed-now f other
    | inr found ↦ elim (Contains-append_cases before added f found) as (λ _. f.moves ≤ depth + 1) [
      | inl earlier ↦ let near = nearer-now f earlier in omega (arith, near)
      | inr late ↦ let at = adds.near f late in omega (arith, at)
    ]
  ]

  -- each state that was answered for the level is found
  each-now : (f : Found S) → Contains left f → (r : Reached S) → Contains next r → HasKey all r.key (f.moves + 1)
  each-now f is r among =
      let one = one-of r.key all (knows-now r.key ∙ ap one_if (adds.all r among)) in
      let near = near-now one.one one.is_found in
      let at = was.farthest f is in
      record { one = one.one; is_found = one.is_found; same_key = one.same_key; near = omega (arith, near, at) }

  still-went : (f : Found S) → Contains gone f → WentOn answers f
  still-went f is = let went = was.goes_on f is in
      record { answer = went.answer; is_answer = Contains-append_left going.searched.answers (now ∷ []) went.answer went.is_answer; is_in = went.is_in }

  came-added : (f : Found S) → Contains added f → Came answers f
  came-added f is = record {
    answer = now;
    is_answer = Contains-push going.searched.answers now;
    reached = adds.sound f is;
    farther = λ g among. let at = was.farthest g among in let here = adds.near f is in omega (arith, at, here);
  }

  still-came : (f : Found S) → IsFirst going.searched.first f ⊎ Came going.searched.answers f → IsFirst going.searched.first f ⊎ Came answers f
  still-came f (inl is_first) = inl is_first
  still-came f (inr came) = inr (record {
    answer = came.answer;
    is_answer = Contains-append_left going.searched.answers (now ∷ []) came.answer came.is_answer;
    reached = came.reached;
    farther = came.farther;
  })

  comes-now : (f : Found S) → Contains all f → IsFirst going.searched.first f ⊎ Came answers f
  comes-now f is = by-cases (was-or-now others before added f is)
    where
      by-cases : Contains (others ++ before) f ⊎ Contains added f → IsFirst going.searched.first f ⊎ Came answers f
      by-cases (inl earlier) = still-came f (was.comes f earlier)
      by-cases (inr late) = inr (came-added f late)

  -- by one level more
  pub goes-on : IsGoing begins expands new before added others (depth + 1) (was_whole && is_whole)
  goes-on = record {
    searched = record {
      first = going.searched.first;
      is_first = going.searched.is_first;
      answers = answers;
      are_answers = by-answer (λ a. expands a.level a.next a.is_whole) going.searched.are_answers expanded;
      found = record {
        begins = still-found others before added going.searched.first.key 0 was.begins;
        levels = by-answer (λ a. (f : Found S) → Contains a.level f → Contains (gone ++ left) f)
            (λ a is f among. Contains-append_left gone left f (was.levels a is f among)) (λ f among. Contains-append_right gone left f among);
        each = by-answer (λ a. (f : Found S) → Contains a.level f → (r : Reached S) → Contains a.next r → HasKey all r.key (f.moves + 1))
            (λ a is f among r reached. still-found others before added r.key (f.moves + 1) (was.each a is f among r reached)) each-now;
        goes_on = by-state (λ f. WentOn answers f) still-went (λ f is. record { answer = now; is_answer = Contains-push going.searched.answers now; is_in = is });
        nearer = nearer-now;
        farthest = adds.near;
        passed = passed-now;
        comes = comes-now;
      };
      once = λ k. at-most-once (times k all) (has new k) (knows-now k);
    };
    knows = knows-now;
    whole = λ both. let parts = and_parts was_whole is_whole both in by-answer (λ a. a.is_whole ≡ true) (going.whole (parts.0)) parts.1;
  }

module _ {S Z : Type 0} (begins : Reached S → Type 0) (expands : List (Found S) → List (Reached S) → Bool → Type 0) (known : HashSet Key Z)
    (gone left others own more : List (Found S)) (depth : ℕ) (is_whole : Bool) (going : IsGoing begins expands known gone left others depth is_whole) (parted : IsParted left own more) where
  abbrev found : List (Found S)
  found = others ++ (gone ++ left)

  abbrev shared : List (Found S)
  shared = (others ++ more) ++ (gone ++ own)

  -- the same states are found
  to-shared : (f : Found S) → Contains found f → Contains shared f
  to-shared f is = elim (Contains-append_cases others (gone ++ left) f is) as (λ _. Contains shared f) [
    | inl other ↦ Contains-append_left (others ++ more) (gone ++ own) f (Contains-append_left others more f other)
    | inr here ↦ elim (Contains-append_cases gone left f here) as (λ _. Contains shared f) [
      | inl before ↦ Contains-append_right (others ++ more) (gone ++ own) f (Contains-append_left gone own f before)
      | inr last ↦ elim (parted.each f last) as (λ _. Contains shared f) [
        | inl mine ↦ Contains-append_right (others ++ more) (gone ++ own) f (Contains-append_right gone own f mine)
        | inr theirs ↦ Contains-append_left (others ++ more) (gone ++ own) f (Contains-append_right others more f theirs)
      ]
    ]
  ]

  of-left : (f : Found S) → Contains left f → Contains found f
  of-left f is = Contains-append_right others (gone ++ left) f (Contains-append_right gone left f is)

  from-shared : (f : Found S) → Contains shared f → Contains found f
  from-shared f is = elim (Contains-append_cases (others ++ more) (gone ++ own) f is) as (λ _. Contains found f) [
    | inl passed ↦ elim (Contains-append_cases others more f passed) as (λ _. Contains found f) [
      | inl other ↦ Contains-append_left others (gone ++ left) f other
      | inr theirs ↦ of-left f (parted.others f theirs)
    ]
    | inr here ↦ elim (Contains-append_cases gone own f here) as (λ _. Contains found f) [
      | inl before ↦ Contains-append_right others (gone ++ left) f (Contains-append_left gone left f before)
      | inr mine ↦ of-left f (parted.own f mine)
    ]
  ]

  in-shared : (k : Key) (most : ℕ) → HasKey found k most → HasKey shared k most
  in-shared k most h = record { one = h.one; is_found = to-shared h.one h.is_found; same_key = h.same_key; near = h.near }

  knows-shared : (k : Key) → times k shared ≡ one_if (has known k)
  knows-shared k =
      let knew = going.knows k in
      let counts = parted.counts k in
      let all = times-append k others (gone ++ left) in
      let here = times-append k gone left in
      let now-all = times-append k (others ++ more) (gone ++ own) in
      let passed = times-append k others more in
      let kept = times-append k gone own in
      omega (arith, knew, counts, all, here, now-all, passed, kept)

  passed-shared : (f : Found S) → Contains (others ++ more) f → f.moves ≤ depth
  passed-shared f is = elim (Contains-append_cases others more f is) as (λ _. f.moves ≤ depth) [
    | inl other ↦ going.searched.found.passed f other
    | inr theirs ↦ let at = going.searched.found.farthest f (parted.others f theirs) in omega (arith, at)
  ]

  -- a part leaves those of the last level that are not its own
  leaves-others : IsGoing begins expands known gone own (others ++ more) depth is_whole
  leaves-others = record {
    searched = record {
      first = going.searched.first;
      is_first = going.searched.is_first;
      answers = going.searched.answers;
      are_answers = going.searched.are_answers;
      found = record {
        begins = in-shared going.searched.first.key 0 going.searched.found.begins;
        levels = going.searched.found.levels;
        each = λ a is f among r reached. in-shared r.key (f.moves + 1) (going.searched.found.each a is f among r reached);
        goes_on = going.searched.found.goes_on;
        nearer = going.searched.found.nearer;
        farthest = λ f is. going.searched.found.farthest f (parted.own f is);
        passed = passed-shared;
        comes = λ f is. going.searched.found.comes f (from-shared f is);
      };
      once = λ k. at-most-once (times k shared) (has known k) (knows-shared k);
    };
    knows = knows-shared;
    whole = going.whole;
  }

module _ {S Z : Type 0} (begins : Reached S → Type 0) (expands : List (Found S) → List (Reached S) → Bool → Type 0) (known known_now : HashSet Key Z)
    (many : ℕ) (gone left others : List (Found S)) (many_now : ℕ) (own others_now : List (Found S)) (depth : ℕ) (is_whole : Bool) where
  -- so it goes on where states were left
  pub goes-on-left : IsGoing begins expands known gone left others depth is_whole → AreLeft known known_now many left others many_now own others_now
      → IsGoing begins expands known_now gone own others_now depth is_whole
  goes-on-left going are =
      let all = leaves-others begins expands known gone left others own are.more depth is_whole going are.parted in
      rw (are.known, are.others_are) all

-- a part goes on from no more states than there may be
pub within-left : {S Z : Type 0} (old new : HashSet Key Z) (many : ℕ) (left others : List (Found S)) (many_now : ℕ) (own others_now : List (Found S)) (most : ℕ)
    → AreLeft old new many left others many_now own others_now → many + length left ≤ most → many_now + length own ≤ most
within-left old new many left others many_now own others_now most are few =
    let same = are.gone in
    let size = are.parted.size in
    omega (arith, same, size, few)

-- a search that left nothing to others says how many states it went on from
pub has-part : {S Z : Type 0} (begins : Reached S → Type 0) (expands : List (Found S) → List (Reached S) → Bool → Type 0) (known : HashSet Key Z) (many : ℕ)
    (gone left others : List (Found S)) (depth : ℕ) (is_whole : Bool) → length gone ≡ many → IsGoing begins expands known gone left others depth is_whole
    → HasPart begins expands many left others depth is_whole
has-part begins expands known many gone left others depth is_whole are going = record { gone_on = gone; are_many = are; part = going.searched; whole = going.whole }
