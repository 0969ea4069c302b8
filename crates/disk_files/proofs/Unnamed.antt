-- A name that no file has.
use Rattle.std.proofs.Common.{◌≡◌, ℕ, ◌+◌, true, false, cond, List, [], ◌∷◌, Some, None, refl, sym, ◌∙◌}
use Rattle.std.specs.List.{AllByRecursion, position_from}
use Rattle.std.specs.Str.{bytes_eq}
use Rattle.std.proofs.lemmas.Iterator.Adapters.{position_from-zero}
use Rattle.std.proofs.lemmas.Slice.Eq.{bytes_eq-Decides}
use Rattle.disk_model.specs.Files.{place_named}
use Rattle.disk_model.specs.declared.change.NamedFile.{NamedFile}

differs : (a b : List ℕ) → bytes_eq a b ≡ false → a ≡ b → ⊥
differs a b h e = let same : bytes_eq a b ≡ true = (bytes_eq-Decides a b).1 e in cc

unnamed_from : (n : ℕ) (fs : List NamedFile) (name : List ℕ) → position_from (λ (f : NamedFile). bytes_eq f.name name) n fs ≡ None
    → AllByRecursion (λ (f : NamedFile). f.name ≡ name → ⊥) fs
unnamed_from n [] name none = tt
unnamed_from n (f ∷ fs) name none =
    elim (bytes_eq f.name name) as (λ b. bytes_eq f.name name ≡ b
    → cond b (Some n) (position_from (λ (f : NamedFile). bytes_eq f.name name) (n + 1) fs) ≡ None
    → (f.name ≡ name → ⊥) × AllByRecursion (λ (f : NamedFile). f.name ≡ name → ⊥) fs) [
      | true ↦ λ is e. let no : ⊥ = cc in absurd no
      | false ↦ λ is e. (differs f.name name is, unnamed_from (n + 1) fs name e)
    ] refl none

-- where a search finds no file of a name, none has it
pub unnamed : (fs : List NamedFile) (name : List ℕ) → place_named fs name ≡ None → AllByRecursion (λ (f : NamedFile). f.name ≡ name → ⊥) fs
unnamed fs name none = unnamed_from 0 fs name (sym (position_from-zero (λ (f : NamedFile). bytes_eq f.name name) fs) ∙ none)
