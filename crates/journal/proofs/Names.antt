-- A search for a name finds nothing exactly where no file has it.
use Rattle.std.proofs.Common.{◌≡◌, ℕ, ◌+◌, Bool, true, false, not, cond, List, [], ◌∷◌, Option, Some, None, refl, sym, ap, ◌∙◌}
use Rattle.std.specs.Prelude.{is_none}
use Rattle.std.specs.List.{AllByRecursion, position_from}
use Rattle.std.specs.Str.{bytes_eq}
use Rattle.std.proofs.lemmas.Bool.{false≢true}
use Rattle.std.proofs.lemmas.Iterator.Adapters.{position_from-zero}
use Rattle.std.proofs.lemmas.Slice.Eq.{bytes_eq-Decides}
use Rattle.disk_model.specs.declared.change.NamedFile.{NamedFile}
use Rattle.journal.specs.Reading.{is_unnamed, is_called}

-- the file has the name
abbrev has_name : List ℕ → NamedFile → Bool
has_name name f = bytes_eq f.name name

-- no file has the name
abbrev pub HasNone : List NamedFile → List ℕ → Type 0
HasNone files name = AllByRecursion (λ (f : NamedFile). f.name ≡ name → ⊥) files

none_from : (n : ℕ) (files : List NamedFile) (name : List ℕ) → HasNone files name → is_none (position_from (has_name name) n files) ≡ true
none_from n [] name h = refl
none_from n (f ∷ fs) name h = elim (bytes_eq f.name name) as (λ b. bytes_eq f.name name ≡ b → is_none (cond b (Some n) (position_from (has_name name) (n + 1) fs)) ≡ true) [
  | true ↦ λ e. absurd (h.0 ((bytes_eq-Decides f.name name).0 e))
  | false ↦ λ e. none_from (n + 1) fs name h.1
] refl

parts : (b : Bool) (n : ℕ) (o : Option ℕ) → is_none (cond b (Some n) o) ≡ true → (b ≡ false) × (is_none o ≡ true)
parts true n o e = absurd cc
parts false n o e = (refl, e)

none_at : (n : ℕ) (files : List NamedFile) (name : List ℕ) → is_none (position_from (has_name name) n files) ≡ true → HasNone files name
none_at n [] name h = tt
none_at n (f ∷ fs) name h =
    let p = parts (bytes_eq f.name name) n (position_from (has_name name) (n + 1) fs) h in
    ((λ e. false≢true (sym p.0 ∙ (bytes_eq-Decides f.name name).1 e)), none_at (n + 1) fs name p.1)

pub none_found : (files : List NamedFile) (name : List ℕ) → HasNone files name → is_unnamed files name ≡ true
unfolding is_unnamed
none_found files name h = ap (λ (o : Option ℕ). is_none o) (position_from-zero (has_name name) files) ∙ none_from 0 files name h

pub none_has : (files : List NamedFile) (name : List ℕ) → is_unnamed files name ≡ true → HasNone files name
unfolding is_unnamed
none_has files name h = none_at 0 files name (sym (ap (λ (o : Option ℕ). is_none o) (position_from-zero (has_name name) files)) ∙ h)

-- ---- the name of one file

pub not_called : (o : Option NamedFile) (name : List ℕ) → ((f : NamedFile) → o ≡ Some f → f.name ≡ name → ⊥) → not (is_called o name) ≡ true
not_called None name h = refl
not_called (Some f) name h = elim (bytes_eq f.name name) as (λ b. bytes_eq f.name name ≡ b → not b ≡ true) [
  | true ↦ λ e. absurd (h f refl ((bytes_eq-Decides f.name name).0 e))
  | false ↦ λ e. refl
] refl

pub called_otherwise : (o : Option NamedFile) (name : List ℕ) → not (is_called o name) ≡ true → (f : NamedFile) → o ≡ Some f → f.name ≡ name → ⊥
called_otherwise None name h f e is = cc
called_otherwise (Some g) name h f e is =
    let same : g ≡ f = cc in
    let it : bytes_eq g.name name ≡ true = (bytes_eq-Decides g.name name).1 (ap (λ (x : NamedFile). x.name) same ∙ is) in
    false≢true (ap not (sym it) ∙ h)
