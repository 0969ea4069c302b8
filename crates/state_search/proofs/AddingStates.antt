-- What one more state that was reached adds.
use Rattle.std.proofs.Common.{◌≡◌, ◌⊎◌, ◌∙◌, ◌++◌, ◌∷◌, [], ◌+◌, ℕ, List, Bool, true, false, refl, sym, ap, subst, inl, inr}
use Rattle.std.specs.Prelude.{◌||◌, if◌then◌else◌}
use Rattle.std.specs.List.{Contains}
use Rattle.std.specs.HashSet.{HashSet}
use Rattle.std.proofs.lemmas.List.Elements.{Contains-append_left, Contains-push, Contains-push_cases}
use Rattle.state_search.specs.Adding.{AreAdded, one_if}
use Rattle.state_search.specs.Keys.{has, is_same}
use Rattle.state_search.specs.Searches.{WasReached, times}
use Rattle.state_search.specs.declared.key.Key.{Key}
use Rattle.state_search.specs.declared.moves.Found.{Found}
use Rattle.state_search.specs.declared.moves.Reached.{Reached}
use Rattle.state_search.proofs.Counting.{count-new, count-none, times-append}
use Rattle.state_search.proofs.KeySets.{same-itself, same-keys}

-- a state that was reached is so where more are
reached-before : {S : Type 0} (rs : List (Reached S)) (r : Reached S) (f : Found S) → WasReached rs f → WasReached (rs ++ r ∷ []) f
reached-before rs r f was =
    record { from = was.from; is_reached = Contains-append_left rs (r ∷ []) was.from was.is_reached; same_state = was.same_state; same_key = was.same_key }

or-left : (a b : Bool) → a ≡ true → (a || b) ≡ true
or-left a b is = ap (λ (x : Bool). x || b) is

or-right : (a b : Bool) → b ≡ true → (a || b) ≡ true
or-right true b is = refl
or-right false b is = is

module _ {S Z : Type 0} (old mid new : HashSet Key Z) (rs : List (Reached S)) (r : Reached S) (added : List (Found S)) (moves : ℕ)
    (before : AreAdded old mid rs added moves) (sets : (k : Key) → has new k ≡ (is_same r.key k || has mid k)) where
  -- each that was reached has a key that is known
  all-known : (x : Reached S) → Contains (rs ++ r ∷ []) x → has new x.key ≡ true
  all-known x is = by-cases (Contains-push_cases rs r x is)
    where
      by-cases : Contains rs x ⊎ (r ≡ x) → has new x.key ≡ true
      by-cases (inl earlier) = sets x.key ∙ or-right (is_same r.key x.key) (has mid x.key) (before.all x earlier)
      by-cases (inr same) = let P : Reached S → Type 0 = λ y. has new y.key ≡ true in
          subst P same (sets r.key ∙ or-left (is_same r.key r.key) (has mid r.key) (same-itself r.key))

  -- another key that is the same is known or not as this one is
  as-here : (k : Key) (b : Bool) → has mid r.key ≡ b → is_same r.key k ≡ true → has mid k ≡ b
  as-here k b was same = let P : Key → Type 0 = λ x. has mid x ≡ b in subst P (same-keys r.key k same) was

  -- a state whose key was not known is added
  pub adds-new : (f : Found S) → f.key ≡ r.key → f.state ≡ r.state → f.moves ≡ moves → has mid r.key ≡ false → AreAdded old new (rs ++ r ∷ []) (added ++ f ∷ []) moves
  adds-new f same_key same_state same_moves was = record {
    all = all-known;
    counts = λ k.
        let one : times k (f ∷ []) ≡ (if is_same r.key k then 1 else 0) = ap (λ (x : Key). if is_same x k then 1 else 0) same_key in
        let more = times-append k added (f ∷ []) ∙ ap (λ n. times k added + n) one in
        count-new (is_same r.key k) (has mid k) (has new k) (times k added) (times k (added ++ f ∷ [])) (one_if (has old k)) (as-here k false was) (sets k) more (before.counts k);
    near = λ g is. near-cases g (Contains-push_cases added f g is);
    sound = λ g is. sound-cases g (Contains-push_cases added f g is);
  }
    where
      near-cases : (g : Found S) → Contains added g ⊎ (f ≡ g) → g.moves ≡ moves
      near-cases g (inl earlier) = before.near g earlier
      near-cases g (inr same) = sym (ap (λ (x : Found S). x.moves) same) ∙ same_moves

      sound-cases : (g : Found S) → Contains added g ⊎ (f ≡ g) → WasReached (rs ++ r ∷ []) g
      sound-cases g (inl earlier) = reached-before rs r g (before.sound g earlier)
      sound-cases g (inr same) = record {
        from = r;
        is_reached = Contains-push rs r;
        same_state = sym (ap (λ (x : Found S). x.state) same) ∙ same_state;
        same_key = sym (ap (λ (x : Found S). x.key) same) ∙ same_key;
      }

  -- a state whose key was known is not
  pub adds-none : has mid r.key ≡ true → AreAdded old new (rs ++ r ∷ []) added moves
  adds-none was = record {
    all = all-known;
    counts = λ k. before.counts k ∙ ap one_if (count-none (is_same r.key k) (has mid k) (has new k) (as-here k true was) (sets k));
    near = before.near;
    sound = λ g is. reached-before rs r g (before.sound g is);
  }
