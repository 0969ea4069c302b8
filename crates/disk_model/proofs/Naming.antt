-- Lists of different names: one of them is taken away, or becomes another one.
use Rattle.std.proofs.Common.{◌≡◌, ℕ, zero, suc, ◌+◌, true, false, cond, List, [], ◌∷◌, take, drop, set, Option, Some, None, refl, sym, ap, subst, arith}
use Rattle.std.specs.Prelude.{slice_get}
use Rattle.std.specs.List.{AllByRecursion, position_from, remove}
use Rattle.std.specs.Str.{bytes_eq}
use Rattle.std.proofs.lemmas.Iterator.Adapters.{position_from-zero}
use Rattle.std.proofs.lemmas.Slice.Eq.{bytes_eq-Decides}
use Rattle.disk_model.specs.declared.change.NamedFile.{NamedFile}
use Rattle.disk_model.specs.Files.{place_named}
use Rattle.disk_model.proofs.Lists.{each_set, each_append, each_take, each_drop, each_get}

abbrev pub names : List NamedFile → List (List ℕ)
names [] = []
names (f ∷ fs) = f.name ∷ names fs

abbrev pub IsOther : List ℕ → List ℕ → Type 0
IsOther name m = m ≡ name → ⊥

abbrev pub Distinct : List (List ℕ) → Type 0
Distinct [] = Unit {0}
Distinct (n ∷ ns) = AllByRecursion (IsOther n) ns × Distinct ns

pub names_set : (fs : List NamedFile) (n : ℕ) (g : NamedFile) → names (set fs n g) ≡ set (names fs) n g.name
names_set [] n g = refl
names_set (x ∷ fs) zero g = refl
names_set (x ∷ fs) (suc n) g = ap (λ (l : List (List ℕ)). x.name ∷ l) (names_set fs n g)

pub names_remove : (fs : List NamedFile) (n : ℕ) → names (remove fs n) ≡ remove (names fs) n
names_remove [] zero = refl
names_remove [] (suc n) = refl
names_remove (x ∷ fs) zero = refl
names_remove (x ∷ fs) (suc n) = ap (λ (l : List (List ℕ)). x.name ∷ l) (names_remove fs n)

pub each_remove : {A : Type 0} (P : A → Type 0) (xs : List A) (n : ℕ) → AllByRecursion P xs → AllByRecursion P (remove xs n)
each_remove P xs n h = each_append P (take n xs) (drop (suc n) xs) (each_take P n xs h) (each_drop P (suc n) xs h)

pub distinct_remove : (ns : List (List ℕ)) (l : ℕ) → Distinct ns → Distinct (remove ns l)
distinct_remove [] zero d = tt
distinct_remove [] (suc l) d = tt
distinct_remove (m ∷ ns) zero d = d.1
distinct_remove (m ∷ ns) (suc l) d = (each_remove (IsOther m) ns l d.0, distinct_remove ns l d.1)

-- one becomes a name that none has
pub distinct_set : (ns : List (List ℕ)) (p : ℕ) (name : List ℕ) → AllByRecursion (IsOther name) ns → Distinct ns → Distinct (set ns p name)
distinct_set [] p name h d = tt
distinct_set (m ∷ ns) zero name h d = (h.1, d.1)
distinct_set (m ∷ ns) (suc p) name h d = (each_set (IsOther m) ns p name (λ e. h.0 (sym e)) d.0, distinct_set ns p name h.1 d.1)

-- all but one have another name than that one
others_differ : (ns : List (List ℕ)) (l : ℕ) (name : List ℕ) → slice_get ns l ≡ Some name → Distinct ns → AllByRecursion (IsOther name) (remove ns l)
others_differ [] l name e d = absurd (let no : ⊥ = cc in no)
others_differ (m ∷ ns) zero name e d = let same : m ≡ name = cc in subst (λ k. AllByRecursion (IsOther k) ns) same d.0
others_differ (m ∷ ns) (suc l) name e d = ((λ is. each_get (IsOther m) ns l name d.0 e (sym is)), others_differ ns l name e d.1)

-- one becomes the name of another one, which is taken away
pub distinct_moved : (ns : List (List ℕ)) (l p : ℕ) (name : List ℕ) → slice_get ns l ≡ Some name → (l ≡ p → ⊥) → Distinct ns → Distinct (remove (set ns p name) l)
distinct_moved [] l p name e n d = absurd (let no : ⊥ = cc in no)
distinct_moved (m ∷ ns) zero zero name e n d = absurd (n refl)
distinct_moved (m ∷ ns) zero (suc p) name e n d = let same : m ≡ name = cc in distinct_set ns p name (subst (λ k. AllByRecursion (IsOther k) ns) same d.0) d.1
distinct_moved (m ∷ ns) (suc l) zero name e n d = (others_differ ns l name e d.1, distinct_remove ns l d.1)
distinct_moved (m ∷ ns) (suc l) (suc p) name e n d = (
  each_remove (IsOther m) (set ns p name) l (each_set (IsOther m) ns p name (each_get (IsOther m) ns l name d.0 e) d.0),
  distinct_moved ns l p name e (λ is. n (ap suc is)) d.1,
)

-- ---- the place of a name

pub differs : (a b : List ℕ) → bytes_eq a b ≡ false → a ≡ b → ⊥
differs a b h e = let same : bytes_eq a b ≡ true = (bytes_eq-Decides a b).1 e in cc

-- what a search for a name from place n on finds
abbrev pub Finds : ℕ → List NamedFile → List ℕ → Option ℕ → Type 0
Finds n fs name None = AllByRecursion (IsOther name) (names fs)
Finds n fs name (Some at) = (l : ℕ) × (at ≡ n + l) × (slice_get (names fs) l ≡ Some name)

finds_later : (n : ℕ) (f : NamedFile) (fs : List NamedFile) (name : List ℕ) (o : Option ℕ) → (f.name ≡ name → ⊥) → Finds (n + 1) fs name o → Finds n (f ∷ fs) name o
finds_later n f fs name None not_it h = (not_it, h)
finds_later n f fs name (Some at) not_it h = (suc h.0, omega (arith, h.1), h.2)

finds_from : (n : ℕ) (fs : List NamedFile) (name : List ℕ) → Finds n fs name (position_from (λ (f : NamedFile). bytes_eq f.name name) n fs)
finds_from n [] name = tt
finds_from n (f ∷ fs) name =
    elim (bytes_eq f.name name) as (λ b. bytes_eq f.name name ≡ b → Finds n (f ∷ fs) name (cond b (Some n) (position_from (λ (f : NamedFile). bytes_eq f.name name) (n + 1) fs))) [
      | true ↦ λ is. (0, omega arith, ap Some ((bytes_eq-Decides f.name name).0 is))
      | false ↦ λ is. finds_later n f fs name (position_from (λ (f : NamedFile). bytes_eq f.name name) (n + 1) fs) (differs f.name name is) (finds_from (n + 1) fs name)
    ] refl

pub finds : (fs : List NamedFile) (name : List ℕ) → Finds 0 fs name (place_named fs name)
finds fs name = subst (Finds 0 fs name) (sym (position_from-zero (λ (f : NamedFile). bytes_eq f.name name) fs)) (finds_from 0 fs name)
