-- What one more event gives, beside its marks.
use Rattle.std.proofs.Common.{◌≡◌, ℕ, ◌==◌, Bool, true, false, if◌then◌else◌, List, [], ◌∷◌, ◌++◌, Option, Some, option_to_list, refl, sym, ap, subst, ◌∙◌}
use Rattle.std.proofs.lemmas.Bool.{eqb-true, eq-eqb}
use Rattle.commit_deps.specs.Marks.{IsMarkOf}
use Rattle.kernel_model.specs.Entries.{Entry}
use Rattle.kernel_model.specs.Shown.{Given, given_by, bytes_for, items_for}
use Rattle.kernel_model.specs.declared.effect.Output.{Output}
use Rattle.held_output.specs.Withheld.{Withheld, Held, all_held}
use Rattle.kernel_step.specs.Seen.{AreMarked, Withholds}

-- ---- marks beside what is given
pub are-marked-more : {A : Type 0} (gs : List (Given A)) (hs : List (Held A)) (past : List Entry) (e : Entry) (m : ℕ) (xs : List A)
    → AreMarked gs hs → IsMarkOf m past e → AreMarked (gs ++ given_by past e xs) (hs ++ all_held m xs)
are-marked-more [] [] past e m [] h is = tt
are-marked-more [] [] past e m (x ∷ xs) h is = (refl, is, are-marked-more [] [] past e m xs h is)
are-marked-more [] (n ∷ hs) past e m xs h is = absurd h
are-marked-more (g ∷ gs) [] past e m xs h is = absurd h
are-marked-more (g ∷ gs) (n ∷ hs) past e m xs h is = (h.0, h.1, are-marked-more gs hs past e m xs h.2 is)

-- what is withheld after one more event, whose mark this is
pub withholds-more : {A : Type 0} (c : ℕ) (gs gs' : List (Given A)) (w w' : Withheld A) (past : List Entry) (e : Entry) (m : ℕ) (xs : List A)
    → gs' ≡ gs ++ given_by past e xs → IsMarkOf m past e → w'.items ≡ w.items ++ all_held m xs → w'.committed ≡ w.committed
    → Withholds c gs w → Withholds c gs' w'
withholds-more {A} c gs gs' w w' past e m xs more is items committed h = record {
  marked =
      subst (λ (hs : List (Held A)). AreMarked gs' hs) (sym items)
      (subst (λ (ys : List (Given A)). AreMarked ys (w.items ++ all_held m xs)) (sym more) (are-marked-more gs w.items past e m xs h.marked is));
  committed = committed ∙ h.committed;
}

-- the same is given
pub withholds-same : {A : Type 0} (c : ℕ) (gs gs' : List (Given A)) (w : Withheld A) → gs' ≡ gs → Withholds c gs w → Withholds c gs' w
withholds-same {A} c gs gs' w same h = subst (λ (ys : List (Given A)). Withholds c ys w) (sym same) h

-- the same items, where so many changes are committed
pub withholds-moved : {A : Type 0} (c d : ℕ) (gs : List (Given A)) (w w' : Withheld A) → w'.items ≡ w.items → w'.committed ≡ d
    → Withholds c gs w → Withholds d gs w'
withholds-moved {A} c d gs w w' items committed h = record { marked = subst (λ (hs : List (Held A)). AreMarked gs hs) (sym items) h.marked; committed = committed }

-- ---- what one event gives
pub if-equal : {A : Type 0} (a b : ℕ) (x y : A) → a ≡ b → (if a == b then x else y) ≡ x
if-equal a b x y h = ap (λ (v : Bool). if v then x else y) (eq-eqb a b h)

pub if-other : {A : Type 0} (a b : ℕ) (x y : A) → (a ≡ b → ⊥) → (if a == b then x else y) ≡ y
if-other a b x y h = elim (a == b) as (λ v. (a == b) ≡ v → (if v then x else y) ≡ y) [
  | true ↦ λ e. absurd (h (eqb-true a b e))
  | false ↦ λ e. refl
] refl

pub bytes-here : (t : ℕ) (e : Entry) (out : Output) → e.output ≡ Some out → out.terminal ≡ t → bytes_for t e.output ≡ out.bytes
bytes-here t e out is here = ap (λ (o : Option Output). bytes_for t o) is ∙ if-equal out.terminal t out.bytes [] here

pub bytes-elsewhere : (t : ℕ) (e : Entry) (out : Output) → e.output ≡ Some out → (out.terminal ≡ t → ⊥) → bytes_for t e.output ≡ []
bytes-elsewhere t e out is there = ap (λ (o : Option Output). bytes_for t o) is ∙ if-other out.terminal t out.bytes [] there

pub items-here : (p : ℕ) (e : Entry) → e.process ≡ p → items_for p e ≡ option_to_list e.item
items-here p e here = if-equal e.process p (option_to_list e.item) [] here

pub items-elsewhere : (p : ℕ) (e : Entry) → (e.process ≡ p → ⊥) → items_for p e ≡ []
items-elsewhere p e there = if-other e.process p (option_to_list e.item) [] there
