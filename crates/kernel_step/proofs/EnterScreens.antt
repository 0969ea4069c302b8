-- Screens after one more event.
use Rattle.std.proofs.Common.{◌≡◌, ℕ, ◌<◌, ◌≤◌, inl, inr, List, [], ◌∷◌, ◌++◌, length, slice_get, slice_set, Option, Some, None, refl, sym, ap, subst, ◌∙◌, arith}
use Rattle.std.proofs.lemmas.Option.{slice_get_within}
use Rattle.std.proofs.lemmas.List.{length-set, append-nil}
use Rattle.commit_deps.specs.Marks.{IsMarkOf}
use Rattle.kernel_model.specs.Entries.{Entry}
use Rattle.kernel_model.specs.Shown.{given_by, printed, bytes_for}
use Rattle.kernel_model.specs.declared.effect.Output.{Output}
use Rattle.kernel_model.proofs.Runs.{printed-entry}
use Rattle.held_output.specs.Withheld.{Withheld, IsSame, all_held}
use Rattle.kernel_step.specs.Seen.{Withholds, AreScreens}
use Rattle.kernel_step.proofs.EnterLists.{withholds-more, withholds-same, withholds-moved, bytes-here, bytes-elsewhere}
use Rattle.kernel_step.proofs.Lists.{get-set}

-- a screen to which the event writes nothing stays
screen-stays : (c : ℕ) (log : List Entry) (e : Entry) (t : ℕ) (s : Withheld ℕ) → bytes_for t e.output ≡ [] → Withholds c (printed t log) s
    → Withholds c (printed t (log ++ e ∷ [])) s
screen-stays c log e t s none h =
    withholds-same c (printed t log) (printed t (log ++ e ∷ [])) s
    (printed-entry t log e ∙ ap (λ (xs : List ℕ). printed t log ++ given_by log e xs) none ∙ append-nil (printed t log)) h

-- the screen after bytes of one more event of this mark
pub record IsPrinted (bytes : List ℕ) (mark : ℕ) (old new : Withheld ℕ) : Type 0 where
  pub items : new.items ≡ old.items ++ all_held mark bytes
  pub committed : new.committed ≡ old.committed

screen-printed : (c : ℕ) (log : List Entry) (e : Entry) (t : ℕ) (bytes : List ℕ) (mark : ℕ) (s s' : Withheld ℕ)
    → bytes_for t e.output ≡ bytes → IsMarkOf mark log e → IsPrinted bytes mark s s' → Withholds c (printed t log) s → Withholds c (printed t (log ++ e ∷ [])) s'
screen-printed c log e t bytes mark s s' given is_mark new h =
    withholds-more c (printed t log) (printed t (log ++ e ∷ [])) s s' log e mark bytes
    (printed-entry t log e ∙ ap (λ (xs : List ℕ). printed t log ++ given_by log e xs) given) is_mark new.items new.committed h

-- all screens, where one of them was written to
pub screens-printed : (c : ℕ) (log : List Entry) (e : Entry) (out : Output) (mark : ℕ) (ss : List (Withheld ℕ)) (s s' : Withheld ℕ)
    → slice_get ss out.terminal ≡ Some s → e.output ≡ Some out → IsMarkOf mark log e → IsPrinted out.bytes mark s s'
    → AreScreens c log ss → AreScreens c (log ++ e ∷ []) (slice_set ss out.terminal s')
screens-printed c log e out mark ss s s' there writes is_mark new h = record {
  count = length-set ss out.terminal s' ∙ h.count;
  each = λ t x at. elim (get-set ss out.terminal t s' x at) as (λ _. Withholds c (printed t (log ++ e ∷ [])) x) [
    | inl g ↦
        subst (λ (y : Withheld ℕ). Withholds c (printed t (log ++ e ∷ [])) y) (sym g.1)
        (subst (λ (k : ℕ). Withholds c (printed k (log ++ e ∷ [])) s') (sym g.0)
        (screen-printed c log e out.terminal out.bytes mark s s' (bytes-here out.terminal e out writes refl) is_mark new (h.each out.terminal s there)))
    | inr g ↦ screen-stays c log e t x (bytes-elsewhere t e out writes (λ same. g.0 (sym same))) (h.each t x g.1)
  ];
}

-- all screens, where the event writes to none of them
pub screens-elsewhere : (c : ℕ) (log : List Entry) (e : Entry) (out : Output) (ss : List (Withheld ℕ))
    → length ss ≤ out.terminal → e.output ≡ Some out → AreScreens c log ss → AreScreens c (log ++ e ∷ []) ss
screens-elsewhere c log e out ss past writes h = record {
  count = h.count;
  each = λ t s there.
      let within : t < length ss = slice_get_within ss t s there in
      screen-stays c log e t s (bytes-elsewhere t e out writes (λ same. omega arith)) (h.each t s there);
}

-- all screens, where the event writes nothing
pub screens-stay : (c : ℕ) (log : List Entry) (e : Entry) (ss : List (Withheld ℕ)) → e.output ≡ None → AreScreens c log ss → AreScreens c (log ++ e ∷ []) ss
screens-stay c log e ss none h = record {
  count = h.count;
  each = λ t s there. screen-stays c log e t s (ap (λ (o : Option Output). bytes_for t o) none) (h.each t s there);
}

-- the same screens, though there may be room for more
pub screens-same : (c : ℕ) (log : List Entry) (ss : List (Withheld ℕ)) (t : ℕ) (s s' : Withheld ℕ) → slice_get ss t ≡ Some s → IsSame s s'
    → AreScreens c log ss → AreScreens c log (slice_set ss t s')
screens-same c log ss t s s' there same h = record {
  count = length-set ss t s' ∙ h.count;
  each = λ k x at. elim (get-set ss t k s' x at) as (λ _. Withholds c (printed k log) x) [
    | inl g ↦
        subst (λ (y : Withheld ℕ). Withholds c (printed k log) y) (sym g.1)
        (subst (λ (j : ℕ). Withholds c (printed j log) s') (sym g.0)
        (let was = h.each t s there in withholds-moved c c (printed t log) s s' same.items (same.committed ∙ was.committed) was))
    | inr g ↦ h.each k x g.1
  ];
}
