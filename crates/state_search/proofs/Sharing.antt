-- Of a level that is shared out each state is some part's own.
use Rattle.std.proofs.Common.{arith, ◌≡◌, ◌⊎◌, ◌∙◌, ◌++◌, ◌∷◌, [], ◌+◌, ◌==◌, ◌≤◌, nat_le, ℕ, List, Bool, true, false, length, refl, sym, subst, inl, inr}
use Rattle.std.specs.Prelude.{if◌then◌else◌}
use Rattle.std.specs.List.{Contains}
use Rattle.std.specs.HashSet.{HashSet}
use Rattle.std.proofs.lemmas.Bool.{and_parts, eq-eqb, false≢true, leb-false, ne_eqb}
use Rattle.std.proofs.lemmas.List.Elements.{Contains-append_left, Contains-append_right, Contains-append_cases, Contains-push, Contains-push_cases}
use Rattle.state_search.specs.Going.{IsGoing, is_enough, is_shared_out, kept_by, left_by}
use Rattle.state_search.specs.Searches.{HasPart}
use Rattle.state_search.specs.Sharing.{IsShared, next_turn, others_from, own_from}
use Rattle.state_search.specs.declared.key.Key.{Key}
use Rattle.state_search.specs.declared.moves.Found.{Found}
use Rattle.state_search.specs.declared.moves.Reached.{Reached}

-- whose turn it is
pub record IsOf (of turn : ℕ) : Type 0 where
  pub first : 1 ≤ turn
  pub last : turn ≤ of

turn-of : (of turn : ℕ) → 1 ≤ of → IsOf of turn → IsOf of (next_turn of turn)
turn-of of turn some is = by (nat_le of turn) refl
  where
    by : (b : Bool) → nat_le of turn ≡ b → IsOf of (if b then 1 else turn + 1)
    by true past = record { first = omega arith; last = some }
    by false before = record { first = omega arith; last = let below = leb-false of turn before in omega (arith, below) }

module _ {S : Type 0} where
  none-in : (f : Found S) → Contains [] f → ⊥
  none-in f is = let within = is.1 in omega (arith, within)

  first-of : (g : Found S) (fs : List (Found S)) → Contains (g ∷ fs) g
  first-of g fs = Contains-append_left (g ∷ []) fs g (Contains-push [] g)

  in-rest : (g : Found S) (fs : List (Found S)) (f : Found S) → Contains fs f → Contains (g ∷ fs) f
  in-rest g fs f is = Contains-append_right (g ∷ []) fs f is

  is-one : (g : Found S) (fs : List (Found S)) (f : Found S) → Contains (g ∷ fs) f → (g ≡ f) ⊎ Contains fs f
  is-one g fs f is = elim (Contains-append_cases (g ∷ []) fs f is) as (λ _. (g ≡ f) ⊎ Contains fs f) [
    | inl here ↦ elim (Contains-push_cases [] g f here) as (λ _. (g ≡ f) ⊎ Contains fs f) [
      | inl none ↦ absurd (none-in f none)
      | inr same ↦ inl same
    ]
    | inr there ↦ inr there
  ]

  -- a state at whose turn this part is on, and one of the later ones, is its own
  own-here : (number of turn : ℕ) (g : Found S) (fs : List (Found S)) → turn ≡ number → Contains (own_from number of turn (g ∷ fs)) g
  own-here number of turn g fs same = by (turn == number) (eq-eqb turn number same)
    where
      by : (b : Bool) → b ≡ true → Contains (if b then g ∷ own_from number of (next_turn of turn) fs else own_from number of (next_turn of turn) fs) g
      by true is = first-of g (own_from number of (next_turn of turn) fs)
      by false is = absurd (false≢true is)

  own-later : (number of turn : ℕ) (g : Found S) (fs : List (Found S)) (f : Found S) → Contains (own_from number of (next_turn of turn) fs) f → Contains (own_from number of turn (g ∷ fs)) f
  own-later number of turn g fs f is = by (turn == number)
    where
      by : (b : Bool) → Contains (if b then g ∷ own_from number of (next_turn of turn) fs else own_from number of (next_turn of turn) fs) f
      by true = in-rest g (own_from number of (next_turn of turn) fs) f is
      by false = is

  -- one that is of the others is another's own
  pub record IsOwn (number of turn : ℕ) (fs : List (Found S)) (f : Found S) : Type 0 where
    pub other : ℕ
    pub is_of : IsOf of other
    pub another : other ≡ number → ⊥
    pub own : Contains (own_from other of turn fs) f

  anothers-rest : (number of turn : ℕ) (g : Found S) (fs : List (Found S)) (f : Found S) → IsOwn number of (next_turn of turn) fs f → IsOwn number of turn (g ∷ fs) f
  anothers-rest number of turn g fs f one =
      record { other = one.other; is_of = one.is_of; another = one.another; own = own-later one.other of turn g fs f one.own }

  anothers-here : (number of turn : ℕ) (g : Found S) (fs : List (Found S)) (f : Found S) → IsOf of turn
      → (Contains (others_from number of (next_turn of turn) fs) f → IsOwn number of (next_turn of turn) fs f)
      → (b : Bool) → (turn == number) ≡ b → Contains (if b then others_from number of (next_turn of turn) fs else g ∷ others_from number of (next_turn of turn) fs) f
      → IsOwn number of turn (g ∷ fs) f
  anothers-here number of turn g fs f is_of rest true mine there = anothers-rest number of turn g fs f (rest there)
  anothers-here number of turn g fs f is_of rest false not_mine there = elim (is-one g (others_from number of (next_turn of turn) fs) f there) as (λ _. IsOwn number of turn (g ∷ fs) f) [
    | inl same ↦ record {
      other = turn;
      is_of = is_of;
      another = λ also. false≢true (sym not_mine ∙ eq-eqb turn number also);
      own = subst (λ (h : Found S). Contains (own_from turn of turn (g ∷ fs)) h) same (own-here turn of turn g fs refl);
    }
    | inr later ↦ anothers-rest number of turn g fs f (rest later)
  ]

  pub anothers : (number of turn : ℕ) (fs : List (Found S)) (f : Found S) → 1 ≤ of → IsOf of turn → Contains (others_from number of turn fs) f → IsOwn number of turn fs f
  anothers number of turn [] f some is_of is = absurd (none-in f is)
  anothers number of turn (g ∷ fs) f some is_of is =
      anothers-here number of turn g fs f is_of (λ there. anothers number of (next_turn of turn) fs f some (turn-of of turn some is_of) there) (turn == number) refl is

module _ {S Z : Type 0} (begins : Reached S → Type 0) (expands : List (Found S) → List (Reached S) → Bool → Type 0) (known : HashSet Key Z) (number of many : ℕ)
    (gone left others : List (Found S)) (depth : ℕ) (is_whole : Bool) (going : IsGoing begins expands known gone left others depth is_whole) (are_many : length gone ≡ many)
    (shared : (others ≡ []) ⊎ IsShared begins expands number of gone others) where
  -- it went on from what it keeps too
  still-shared : (own : List (Found S)) → (others ≡ []) ⊎ IsShared begins expands number of (gone ++ own) others
  still-shared own = elim shared as (λ _. (others ≡ []) ⊎ IsShared begins expands number of (gone ++ own) others) [
    | inl none ↦ inl none
    | inr is ↦ inr (record {
      many = is.many;
      level = is.level;
      depth = is.depth;
      is_whole = is.is_whole;
      whole = is.whole;
      own = λ f mine. Contains-append_left gone own f (is.own f mine);
      anothers = is.anothers;
    })
  ]

  abbrev Shares : List (Found S) → List (Found S) → Type 0
  Shares own more = (more ≡ []) ⊎ IsShared begins expands number of (gone ++ own) more

  shares-level : others ≡ [] → Shares (own_from number of 1 left) (others ++ others_from number of 1 left)
  shares-level none = inr (record {
    many = many;
    level = left;
    depth = depth;
    is_whole = is_whole;
    whole = subst (λ (fs : List (Found S)). HasPart begins expands many left fs depth is_whole) none
        (record { gone_on = gone; are_many = are_many; part = going.searched; whole = going.whole });
    own = λ f mine. Contains-append_right gone (own_from number of 1 left) f mine;
    anothers = λ some f is.
        let theirs = subst (λ (fs : List (Found S)). Contains (fs ++ others_from number of 1 left) f) none is in
        let one = anothers number of 1 left f some (record { first = omega arith; last = some }) theirs in
        record { other = one.other; first = one.is_of.first; last = one.is_of.last; another = one.another; own = one.own };
  })

  -- and so where a level is shared out, or not
  pub shares : Shares (kept_by number of others left) (left_by number of others left)
  shares = by (is_shared_out of others left) refl
    where
      none-yet : (fs : List (Found S)) → (length fs == 0) ≡ true → fs ≡ []
      none-yet [] is = refl
      none-yet (f ∷ fs) is = absurd (false≢true (sym (ne_eqb (length (f ∷ fs)) 0 (λ none. let no : ⊥ = omega (arith, none) in no)) ∙ is))

      by : (b : Bool) → is_shared_out of others left ≡ b → Shares (if b then own_from number of 1 left else left) (if b then others ++ others_from number of 1 left else others)
      by true is = shares-level (none-yet others ((and_parts (length others == 0) (is_enough of (length left)) is).0))
      by false is = still-shared left
