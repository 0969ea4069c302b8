-- A file that is gone never comes back.
use Rattle.std.proofs.Common.{◌≡◌, ℕ, zero, suc, ◌+◌, ◌<◌, ◌==◌, ◌⊎◌, inl, inr, Bool, true, false, cond, List, [], ◌∷◌, ◌++◌, length, slice_get, Option, Some, None, is_some, refl, sym, ap, subst, ◌∙◌, arith}
use Rattle.std.specs.List.{position_from, remove}
use Rattle.std.proofs.lemmas.Bool.{false≢true, eq-eqb}
use Rattle.std.proofs.lemmas.Iterator.Adapters.{position_from-zero}
use Rattle.disk_model.specs.Files.{loser, without}
use Rattle.disk_model.specs.Numbers.{Numbered, at_place, lives, place_of}
use Rattle.disk_model.specs.declared.change.Change.{Change}
use Rattle.disk_model.specs.declared.change.Change.TheVariants as change
use Rattle.disk_model.specs.declared.change.NamedFile.{NamedFile}
use Rattle.kernel_model.specs.Limits.{AreNumbered}
use Rattle.kernel_model.specs.State.{changed_by}
use Rattle.kernel_model.specs.Steps.{step}
use Rattle.kernel_model.specs.World.{World, after, happens}
use Rattle.kernel_model.specs.declared.event.Event.{Event}
use Rattle.kernel_model.proofs.Folding.{step_changes}
use Rattle.kernel_model.proofs.Names.{place_there}

-- the number was given to a file, and none of these is it
pub record IsGone (files : Numbered) (n : ℕ) : Type 0 where
  pub given : n < files.made
  pub none : (k : ℕ) → slice_get files.numbers k ≡ Some n → ⊥

-- ---- one change

last_get : (ns : List ℕ) (m k n : ℕ) → slice_get (ns ++ m ∷ []) k ≡ Some n → (slice_get ns k ≡ Some n) ⊎ (m ≡ n)
last_get [] m zero n e = inr (let same : m ≡ n = cc in same)
last_get [] m (suc k) n e = absurd (let no : ⊥ = cc in no)
last_get (x ∷ xs) m zero n e = inl e
last_get (x ∷ xs) m (suc k) n e = last_get xs m k n e

removed_get : (ns : List ℕ) (j k n : ℕ) → slice_get (remove ns j) k ≡ Some n → (i : ℕ) × (slice_get ns i ≡ Some n)
removed_get [] zero k n e = absurd (let no : ⊥ = cc in no)
removed_get [] (suc j) k n e = absurd (let no : ⊥ = cc in no)
removed_get (x ∷ xs) zero k n e = (suc k, e)
removed_get (x ∷ xs) (suc j) zero n e = (0, e)
removed_get (x ∷ xs) (suc j) (suc k) n e = let found = removed_get xs j k n e in (suc found.0, found.1)

without_get : (ns : List ℕ) (o : Option ℕ) (k n : ℕ) → slice_get (without ns o) k ≡ Some n → (i : ℕ) × (slice_get ns i ≡ Some n)
without_get ns None k n e = (k, e)
without_get ns (Some j) k n e = removed_get ns j k n e

gone_changed : (files : Numbered) (o : Option Change) (n : ℕ) → IsGone files n → IsGone (changed_by files o) n
gone_changed files None n gone = gone
gone_changed files (Some (change.Create name)) n gone = record {
  given = omega (arith, gone.given);
  none = λ k e. elim (last_get files.numbers files.made k n e) [
    | inl old ↦ gone.none k old
    | inr new ↦ (let no : ⊥ = omega (arith, gone.given, new) in no)
  ];
}
gone_changed files (Some (change.Write place offset bytes)) n gone = record { given = gone.given; none = gone.none }
gone_changed files (Some (change.Empty place)) n gone = record { given = gone.given; none = gone.none }
gone_changed files (Some (change.Remove place)) n gone = record {
  given = gone.given;
  none = λ k e. let found = without_get files.numbers (Some place) k n e in gone.none found.0 found.1;
}
gone_changed files (Some (change.Rename place name)) n gone = record {
  given = gone.given;
  none = λ k e. let found = without_get files.numbers (loser files.living (slice_get files.living place) name) k n e in gone.none found.0 found.1;
}

-- ---- whether it lives

by_first : (b : Bool) (from : ℕ) (o : Option ℕ) → cond b (Some from) o ≡ None → (o ≡ None → ⊥) → ⊥
by_first true from o h later = let no : ⊥ = cc in no
by_first false from o h later = later h

pub none_number : (from : ℕ) (ns : List ℕ) (n k : ℕ) → position_from (λ (m : ℕ). m == n) from ns ≡ None → slice_get ns k ≡ Some n → ⊥
none_number from [] n k h e = let no : ⊥ = cc in no
none_number from (m ∷ ns) n zero h e =
    let same : m ≡ n = cc in
    let is : (m == n) ≡ true = eq-eqb m n same in
    let found : Some from ≡ None = sym (ap (λ (b : Bool). cond b (Some from) (position_from (λ (i : ℕ). i == n) (from + 1) ns)) is) ∙ h in
    let no : ⊥ = cc in no
none_number from (m ∷ ns) n (suc k) h e = by_first (m == n) from (position_from (λ (i : ℕ). i == n) (from + 1) ns) h (λ rest. none_number (from + 1) ns n k rest e)

some_there : (files : List NamedFile) (place : ℕ) → place < length files → is_some (slice_get files place) ≡ true
some_there [] place h = absurd (let no : ⊥ = omega arith in no)
some_there (f ∷ fs) zero h = refl
some_there (f ∷ fs) (suc place) h = some_there fs place (omega arith)

-- a number that was given and of which no file lives is gone
pub dead_gone : (files : Numbered) (n : ℕ) → AreNumbered files → n < files.made → lives files n ≡ false → IsGone files n
dead_gone files n are given dead = record { given = given; none = λ k e. by k e (place_of files n) refl }
  where
    by : (k : ℕ) → slice_get files.numbers k ≡ Some n → (o : Option ℕ) → place_of files n ≡ o → ⊥
    by k e None is = none_number 0 files.numbers n k (sym (position_from-zero (λ (m : ℕ). m == n) files.numbers) ∙ is) e
    by k e (Some place) is =
        let there : place < length files.living = omega (arith, (place_there files n place is).0, are.each) in
        let alive : lives files n ≡ true = ap (λ (o : Option ℕ). is_some (at_place files.living o)) is ∙ some_there files.living place there in
        false≢true (sym dead ∙ alive)

-- no file of a number that is gone lives
pub gone_dead : (files : Numbered) (n : ℕ) → IsGone files n → lives files n ≡ false
gone_dead files n gone = by (place_of files n) refl
  where
    by : (o : Option ℕ) → place_of files n ≡ o → lives files n ≡ false
    by None is = ap (λ (o : Option ℕ). is_some (at_place files.living o)) is
    by (Some place) is = absurd (gone.none place (place_there files n place is).1)

-- ---- a run
pub gone_after : (es : List Event) (w : World) (n : ℕ) → IsGone w.sync.files n → IsGone (after w es).sync.files n
gone_after [] w n gone = gone
gone_after (e ∷ es) w n gone =
    gone_after es (happens w e) n (subst (λ (fs : Numbered). IsGone fs n) (sym (step_changes w.sync e)) (gone_changed w.sync.files (step w.sync e).entry.change n gone))
