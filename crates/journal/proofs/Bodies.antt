-- The bytes of changes, one after the other.
use Rattle.std.proofs.Common.{◌≡◌, ℕ, ◌+◌, ◌<◌, ◌≤◌, List, ◌∷◌, ◌++◌, length, get_or, drop, sym, ap, subst, ◌∙◌, append_assoc}
use Rattle.std.specs.List.{AllByRecursion}
use Rattle.std.proofs.lemmas.List.{drop_more, drop_all, append-nil}
use Rattle.disk_model.specs.declared.change.Change.{Change}
use Rattle.disk_model.specs.Files.{IsFormed}
use Rattle.disk_model.specs.Spelling.{spelling, body_of}

pub body_more : (prefix : List ℕ) (cs : List Change) (i : ℕ) (d : Change) (total : List ℕ) → i < length cs → prefix ++ body_of (drop i cs) ≡ total → (prefix ++ spelling (get_or cs i d)) ++ body_of (drop (i + 1) cs) ≡ total
unfolding body_of
body_more prefix cs i d total lt so_far =
    append_assoc prefix (spelling (get_or cs i d)) (body_of (drop (i + 1) cs)) ∙ ap (λ (l : List Change). prefix ++ body_of l) (sym (drop_more cs i d lt)) ∙ so_far

pub body_end : (prefix : List ℕ) (cs : List Change) (i : ℕ) (total : List ℕ) → length cs ≤ i → prefix ++ body_of (drop i cs) ≡ total → prefix ≡ total
unfolding body_of
body_end prefix cs i total le so_far = sym (append-nil prefix) ∙ ap (λ (l : List Change). prefix ++ body_of l) (sym (drop_all i cs le)) ∙ so_far

pub formed_more : (cs : List Change) (i : ℕ) (d : Change) → i < length cs → AllByRecursion IsFormed (drop i cs) → AllByRecursion IsFormed (drop (i + 1) cs)
formed_more cs i d lt h = let k : AllByRecursion IsFormed (get_or cs i d ∷ drop (i + 1) cs) = rw (drop_more cs i d lt) at h in k.1

pub formed_at : (cs : List Change) (i : ℕ) (item : Change) → item ≡ get_or cs i item → i < length cs → AllByRecursion IsFormed (drop i cs) → IsFormed item
formed_at cs i item is lt h =
    let k : AllByRecursion IsFormed (get_or cs i item ∷ drop (i + 1) cs) = rw (drop_more cs i item lt) at h in
    subst (λ (x : Change). IsFormed x) (sym is) k.0
