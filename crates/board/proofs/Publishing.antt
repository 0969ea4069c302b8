-- Each step of a board keeps its rule.
use Rattle.std.proofs.Common.{◌≡◌, ◌≢◌, ℕ, ◌+◌, ◌≤◌, List, [], ◌∷◌, set, true, refl, sym, ◌∙◌, subst, ⊎_elim, arith, le_refl, le_trans}
use Rattle.std.proofs.lemmas.Bool.{false≢true}
use Rattle.std.specs.Prelude.{slice_index}
use mathlib.Core.Option.{some}
use lib.ListN.{get_elem?}
use Rattle.crossbeam_utils.specs.Register.{Turns, Forks}
use Rattle.atomic_table.proofs.Lists.{at_set, at_snoc, set_again}
use Rattle.board.specs.declared.board.View.{View}
use Rattle.board.specs.Pairs.{newcomer, Fits, Follows, Loaded, Published}

-- all passes fit where one of them now shows something else, which fits, and the others fit
fits_set : (seat c n : ℕ) (views : List View) (by : ℕ) (w : View) → ((j : ℕ) (u : View) → j ≢ by → get_elem? views j ≡ some u → Fits seat c n j u) → Fits seat c n by w
    → (j : ℕ) (u : View) → get_elem? (set views by w) j ≡ some u → Fits seat c n j u
fits_set seat c n views by w others mine j u e =
    ⊎_elim
    (λ (x : (j ≡ by) × (w ≡ u)). subst (λ (y : ℕ × View). Fits seat c n y.0 y.1) (λ i. (sym x.0 i, x.1 i)) mine)
    (λ (x : (j ≢ by) × (get_elem? views j ≡ some u)). others j u x.0 x.1)
    (at_set views by j w u e)

-- a load
pub loads : (by : ℕ) (v : View) → Turns Follows by v (λ x. x) Loaded
loads by v x views h at =
    let mine = h.1 by v at in
    let w : View = record { publishes = v.publishes; loads = v.loads + 1; committed = slice_index x 0; changes = slice_index x 1 } in (
      w,
      (h.0, fits_set h.0 (slice_index x 0) (slice_index x 1) views by w (λ j u _ e. h.1 j u e) ((λ p. ((mine.0 p).0, refl, refl)), le_refl _, le_refl _)),
      (refl, mine.1, mine.2),
    )

-- a store of a pair that is no less than the one there
pub publishes : (by : ℕ) (v : View) (pair : List ℕ) → v.publishes ≡ true → v.committed ≤ slice_index pair 0 → v.changes ≤ slice_index pair 1
    → Turns Follows by v (λ _. pair) Published
publishes by v pair may up up' x views h at =
    let mine = h.1 by v at in
    let here = mine.0 may in
    let c = slice_index pair 0 in
    let n = slice_index pair 1 in
    let w : View = record { publishes = v.publishes; loads = v.loads; committed = c; changes = n } in
    let a : slice_index x 0 ≤ c = subst (λ (k : ℕ). k ≤ c) here.1 up in
    let b : slice_index x 1 ≤ n = subst (λ (k : ℕ). k ≤ n) here.2 up' in (
      w,
      (
        h.0,
        fits_set h.0 c n views by w
            (λ j u apart e. let f = h.1 j u e in ((λ p. absurd (apart ((f.0 p).0 ∙ sym here.0))), le_trans f.1 a, le_trans f.2 b))
            ((λ _. (here.0, refl, refl)), le_refl _, le_refl _),
      ),
      refl,
    )

-- a pass that loads comes from another
pub gives : (by : ℕ) (v : View) → Forks Follows by v v newcomer
gives by v x views h at = (
  h.0,
  λ j u e. ⊎_elim
      (λ was. h.1 j u (subst (λ l. get_elem? l j ≡ some u) (set_again views by v at) was))
      (λ (same : newcomer ≡ u). subst (Fits h.0 (slice_index x 0) (slice_index x 1) j) same ((λ p. absurd (false≢true p)), omega arith, omega arith))
      (at_snoc (set views by v) newcomer u j e),
)
