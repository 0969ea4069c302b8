-- States are shared out one by one.
use Rattle.std.proofs.Common.{arith, ◌≡◌, ◌⊎◌, ◌++◌, ◌∷◌, [], ◌==◌, ℕ, List, Bool, true, false, ap, refl, subst, inl, inr}
use Rattle.std.specs.Prelude.{if◌then◌else◌}
use Rattle.std.specs.List.{Contains}
use Rattle.std.proofs.lemmas.List.{length-append}
use Rattle.std.proofs.lemmas.List.Elements.{Contains-append_left, Contains-push, Contains-push_cases}
use Rattle.state_search.specs.Going.{IsParted}
use Rattle.state_search.specs.Sharing.{next_turn, others_from, own_from}
use Rattle.state_search.specs.declared.moves.Found.{Found}
use Rattle.state_search.proofs.Counting.{times-append}

module _ {S : Type 0} (all own others : List (Found S)) (f : Found S) (parted : IsParted all own others) where
  -- one of a longer list, of which the rest is among these
  among : (xs : List (Found S)) → ((g : Found S) → Contains xs g → Contains all g) → (g : Found S) → Contains (xs ++ f ∷ []) g → Contains (all ++ f ∷ []) g
  among xs are g is = elim (Contains-push_cases xs f g is) as (λ _. Contains (all ++ f ∷ []) g) [
    | inl before ↦ Contains-append_left all (f ∷ []) g (are g before)
    | inr same ↦ subst (λ (h : Found S). Contains (all ++ f ∷ []) h) same (Contains-push all f)
  ]

  still : (g : Found S) → Contains all g → Contains (all ++ f ∷ []) g
  still g is = Contains-append_left all (f ∷ []) g is

  -- it is one's own
  pub one-own : IsParted (all ++ f ∷ []) (own ++ f ∷ []) others
  one-own = record {
    each = λ g is. elim (Contains-push_cases all f g is) as (λ _. Contains (own ++ f ∷ []) g ⊎ Contains others g) [
      | inl before ↦ elim (parted.each g before) as (λ _. Contains (own ++ f ∷ []) g ⊎ Contains others g) [
        | inl mine ↦ inl (Contains-append_left own (f ∷ []) g mine)
        | inr theirs ↦ inr theirs
      ]
      | inr same ↦ inl (subst (λ (h : Found S). Contains (own ++ f ∷ []) h) same (Contains-push own f))
    ];
    own = among own parted.own;
    others = λ g is. still g (parted.others g is);
    counts = λ k. let was = parted.counts k in let now = times-append k all (f ∷ []) in let mine = times-append k own (f ∷ []) in omega (arith, was, now, mine);
    size = let was = parted.size in let now = length-append all (f ∷ []) in let mine = length-append own (f ∷ []) in omega (arith, was, now, mine);
  }

  -- it is another's
  pub one-other : IsParted (all ++ f ∷ []) own (others ++ f ∷ [])
  one-other = record {
    each = λ g is. elim (Contains-push_cases all f g is) as (λ _. Contains own g ⊎ Contains (others ++ f ∷ []) g) [
      | inl before ↦ elim (parted.each g before) as (λ _. Contains own g ⊎ Contains (others ++ f ∷ []) g) [
        | inl mine ↦ inl mine
        | inr theirs ↦ inr (Contains-append_left others (f ∷ []) g theirs)
      ]
      | inr same ↦ inr (subst (λ (h : Found S). Contains (others ++ f ∷ []) h) same (Contains-push others f))
    ];
    own = λ g is. still g (parted.own g is);
    others = among others parted.others;
    counts = λ k. let was = parted.counts k in let now = times-append k all (f ∷ []) in let theirs = times-append k others (f ∷ []) in omega (arith, was, now, theirs);
    size = let was = parted.size in let now = length-append all (f ∷ []) in let theirs = length-append others (f ∷ []) in omega (arith, was, now, theirs);
  }

-- all states may be one's own
pub all-own : {S : Type 0} (all : List (Found S)) → IsParted all all []
all-own all = record {
  each = λ g is. inl is;
  own = λ g is. is;
  others = λ g is. absurd (let within = is.1 in let no : ⊥ = omega (arith, within) in no);
  counts = λ k. omega arith;
  size = omega arith;
}

-- whose turn it is after these states
abbrev pub turn_at : {S : Type 0} → ℕ → ℕ → List (Found S) → ℕ
turn_at of turn [] = turn
turn_at of turn (f ∷ fs) = turn_at of (next_turn of turn) fs

pub turn_next : {S : Type 0} (of turn : ℕ) (fs : List (Found S)) (f : Found S) → turn_at of turn (fs ++ f ∷ []) ≡ next_turn of (turn_at of turn fs)
turn_next of turn [] f = refl
turn_next of turn (g ∷ fs) f = turn_next of (next_turn of turn) fs f

module _ {S : Type 0} (number of : ℕ) where
  -- one more state, at the part's turn and at another's
  pub own_more : (turn : ℕ) (fs : List (Found S)) (f : Found S) → (turn_at of turn fs == number) ≡ true → own_from number of turn (fs ++ f ∷ []) ≡ own_from number of turn fs ++ f ∷ []
  own_more turn [] f is = ap (λ (b : Bool). if b then f ∷ [] else []) is
  own_more turn (g ∷ fs) f is = by _ _ (own_more (next_turn of turn) fs f is) (turn == number)
    where
      by : (more before : List (Found S)) → more ≡ before ++ f ∷ [] → (b : Bool) → (if b then g ∷ more else more) ≡ (if b then g ∷ before else before) ++ f ∷ []
      by more before rest true = ap (λ (hs : List (Found S)). g ∷ hs) rest
      by more before rest false = rest

  pub own_still : (turn : ℕ) (fs : List (Found S)) (f : Found S) → (turn_at of turn fs == number) ≡ false → own_from number of turn (fs ++ f ∷ []) ≡ own_from number of turn fs
  own_still turn [] f is = ap (λ (b : Bool). if b then f ∷ [] else []) is
  own_still turn (g ∷ fs) f is = by _ _ (own_still (next_turn of turn) fs f is) (turn == number)
    where
      by : (more before : List (Found S)) → more ≡ before → (b : Bool) → (if b then g ∷ more else more) ≡ (if b then g ∷ before else before)
      by more before rest true = ap (λ (hs : List (Found S)). g ∷ hs) rest
      by more before rest false = rest

  pub others_more : (turn : ℕ) (fs : List (Found S)) (f : Found S) → (turn_at of turn fs == number) ≡ false → others_from number of turn (fs ++ f ∷ []) ≡ others_from number of turn fs ++ f ∷ []
  others_more turn [] f is = ap (λ (b : Bool). if b then [] else f ∷ []) is
  others_more turn (g ∷ fs) f is = by _ _ (others_more (next_turn of turn) fs f is) (turn == number)
    where
      by : (more before : List (Found S)) → more ≡ before ++ f ∷ [] → (b : Bool) → (if b then more else g ∷ more) ≡ (if b then before else g ∷ before) ++ f ∷ []
      by more before rest true = rest
      by more before rest false = ap (λ (hs : List (Found S)). g ∷ hs) rest

  pub others_still : (turn : ℕ) (fs : List (Found S)) (f : Found S) → (turn_at of turn fs == number) ≡ true → others_from number of turn (fs ++ f ∷ []) ≡ others_from number of turn fs
  others_still turn [] f is = ap (λ (b : Bool). if b then [] else f ∷ []) is
  others_still turn (g ∷ fs) f is = by _ _ (others_still (next_turn of turn) fs f is) (turn == number)
    where
      by : (more before : List (Found S)) → more ≡ before → (b : Bool) → (if b then more else g ∷ more) ≡ (if b then before else g ∷ before)
      by more before rest true = rest
      by more before rest false = ap (λ (hs : List (Found S)). g ∷ hs) rest
