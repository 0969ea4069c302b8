-- A search that was not refused left none.
use Rattle.std.proofs.Common.{arith, ◌≡◌, ◌+◌, ◌<◌, ◌≤◌, ◌∷◌, [], ℕ, Bool, true, List, length, inl, inr, refl, subst, sym}
use Rattle.std.specs.Prelude.{Result, Ok, Err, IfOk, OnOk, Option, None, Some}
use Rattle.std.specs.Global.{Vec}
use Rattle.state_search.specs.Searches.{IsCut}
use Rattle.state_search.specs.declared.bounds.Bounds.{Bounds}
use Rattle.state_search.specs.declared.moves.Found.{Found}
use Rattle.explored_runs.specs.Explored.{Explored, ExploredTo, SearchedAll, SearchedBy, SearchedPart, SearchedTo, bounds_of}
use Rattle.explored_runs.specs.RunSearches.{FindsPartOfRuns, FindsRuns}
use Rattle.state_search.specs.declared.parts.Part.{Part}
use Rattle.explored_runs.specs.declared.runs.Runs.{Runs}
use Rattle.order_outcomes.specs.declared.totals.Totals.{Totals}

-- a list of no elements
pub none_of : {X : Type 0} (xs : List X) (n : ℕ) → n ≡ length xs → n ≡ 0 → xs ≡ []
none_of [] n size none = refl
none_of (x ∷ xs) n size none = absurd (let no : ⊥ = omega (arith, size, none) in no)

-- what comes of what was not refused
pub on_ok : {A E : Type 0} {P Q : Type 0} (x : Result A E) → OnOk x P → (P → Q) → OnOk x Q
on_ok (Ok a) is f = f is
on_ok (Err e) is f = tt

-- and of two clauses of it
pub on_ok_both : {A E : Type 0} {P Q R : Type 0} (x : Result A E) → OnOk x P → OnOk x Q → (P → Q → R) → OnOk x R
on_ok_both (Ok a) is also f = f is also
on_ok_both (Err e) is also f = tt

pub if_ok : {A E : Type 0} {P Q : A → Type 0} (x : Result A E) → IfOk x P → ((a : A) → P a → Q a) → IfOk x Q
if_ok (Ok a) is f = f a is
if_ok (Err e) is f = tt

pub left_none : (r : Runs) (many : ℕ) (left : List (Found (Vec ℕ))) (depth n : ℕ) (is_whole : Bool) → FindsRuns r many left depth is_whole → n ≡ length left → n ≡ 0
    → is_whole ≡ true → SearchedAll r
left_none r many left depth n is_whole finds size none whole = record {
  many = many;
  depth = depth;
  finds = subst (λ (b : Bool). FindsRuns r many [] depth b) whole (subst (λ (fs : List (Found (Vec ℕ))). FindsRuns r many fs depth is_whole) (none_of left n size none) finds);
}

pub part_left_none : (r : Runs) (p : Part) (many : ℕ) (left others : List (Found (Vec ℕ))) (depth n : ℕ) (is_whole : Bool) → FindsPartOfRuns r p.number p.of many left others depth is_whole
    → n ≡ length left → n ≡ 0 → is_whole ≡ true → SearchedPart r p
part_left_none r p many left others depth n is_whole finds size none whole = record {
  many = many;
  others = others;
  depth = depth;
  finds = subst (λ (b : Bool). FindsPartOfRuns r p.number p.of many [] others depth b) whole
      (subst (λ (fs : List (Found (Vec ℕ))). FindsPartOfRuns r p.number p.of many fs others depth is_whole) (none_of left n size none) finds);
}

-- the same bounds
pub cut_by : (many : ℕ) (left : List (Found (Vec ℕ))) (depth : ℕ) (b : Bounds) (states moves : ℕ) → b.states ≡ states → b.moves ≡ moves → IsCut many left depth b
    → IsCut many left depth (bounds_of states moves)
cut_by many left depth b states moves same also (inl none) = inl none
cut_by many left depth b states moves same also (inr (inl more)) = inr (inl (subst (λ n. n < many + length left) same more))
cut_by many left depth b states moves same also (inr (inr deep)) = inr (inr (subst (λ n. n ≤ depth) also deep))

-- what is asked for was searched
pub explored_all : (r : Runs) (part : Option Part) → part ≡ None → SearchedAll r → Explored r.instructions part
explored_all r part is all = record { runs = r; limit = refl; searched = subst (λ (p : Option Part). SearchedBy r p) (sym is) all }

pub explored_part : (r : Runs) (part : Option Part) (p : Part) → part ≡ Some p → SearchedPart r p → Explored r.instructions part
explored_part r part p is all = record { runs = r; limit = refl; searched = subst (λ (q : Option Part). SearchedBy r q) (sym is) all }

pub explored_to : (r : Runs) (t : Totals) (states moves : ℕ) → SearchedTo r t states moves → ExploredTo r.instructions r.visits t states moves
explored_to r t states moves to = record { runs = r; limit = refl; visited = refl; searched = to }
