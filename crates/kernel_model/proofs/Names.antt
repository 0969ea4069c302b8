-- Files by their names: the file that has a name is there, and a name that is not found is new.
use Rattle.std.proofs.Common.{◌≡◌, ℕ, zero, suc, ◌+◌, ◌<◌, ◌≤◌, ◌==◌, Bool, true, false, cond, List, [], ◌∷◌, length, slice_get, Option, Some, None, refl, sym, ap, ◌∙◌, get_or, arith}
use Rattle.std.specs.List.{AllByRecursion, list_all, position, position_from}
use Rattle.std.specs.Str.{bytes_eq}
use Rattle.std.proofs.lemmas.Bool.Decides.{nat_tests}
use Rattle.std.proofs.lemmas.Iterator.Adapters.{position_from-zero}
use Rattle.std.proofs.lemmas.List.{length-map}
use Rattle.std.proofs.lemmas.List.Quantifiers.{position-Some}
use Rattle.std.proofs.lemmas.Option.{slice_get-get_or}
use Rattle.std.proofs.lemmas.Slice.Eq.{bytes_eq-Decides}
use Rattle.disk_model.specs.Files.{IsNameByte, is_name_byte}
use Rattle.disk_model.specs.declared.change.NamedFile.{NamedFile}
use Rattle.disk_model.proofs.Naming.{differs}
use Rattle.disk_model.specs.Numbers.{Numbered, at_place, place_of}
use Rattle.kernel_model.specs.Limits.{AreNumbered, RiseFrom}
use Rattle.kernel_model.specs.Rows.{directory, number_named, names_of}

-- what stands at a place that is given is one of the list
pub at_some : {A : Type 0} (xs : List A) (o : Option ℕ) (x : A) → at_place xs o ≡ Some x → (place : ℕ) × (o ≡ Some place) × (slice_get xs place ≡ Some x)
at_some xs None x e = absurd (let no : ⊥ = cc in no)
at_some xs (Some place) x e = (place, refl, e)

-- a number that rises below a bound
rise_below : (low high : ℕ) (ns : List ℕ) (k n : ℕ) → RiseFrom low high ns → slice_get ns k ≡ Some n → n < high
rise_below low high [] k n h e = absurd (let no : ⊥ = cc in no)
rise_below low high (m ∷ ns) zero n h e = let same : m ≡ n = cc in omega (arith, same, h.1)
rise_below low high (m ∷ ns) (suc k) n h e = rise_below (m + 1) high ns k n h.2 e

-- the number of a name is one that was given to a file
pub named_made : (files : Numbered) (name : List ℕ) (file : ℕ) → AreNumbered files → number_named (directory files) name ≡ Some file → file < files.made
named_made files name file are e =
    let found = at_some files.numbers (position (λ other. bytes_eq other name) (names_of files.living)) file e in
    rise_below 0 files.made files.numbers found.0 file are.rise found.2

name_byte : (b : ℕ) → is_name_byte b ≡ true → IsNameByte b
name_byte b h = (grind (arith, nat_tests), grind (arith, nat_tests), grind (arith, nat_tests))

-- the bytes of a good name are those of a name
pub name_bytes : (name : List ℕ) → list_all is_name_byte name ≡ true → AllByRecursion IsNameByte name
name_bytes [] h = tt
name_bytes (b ∷ bs) h = (name_byte b (grind (arith, nat_tests)), name_bytes bs (grind (arith, nat_tests)))

none_from : (n : ℕ) (files : List NamedFile) (name : List ℕ) → position_from (λ other. bytes_eq other name) n (names_of files) ≡ None
    → AllByRecursion (λ (f : NamedFile). f.name ≡ name → ⊥) files
none_from n [] name h = tt
none_from n (f ∷ fs) name h =
    elim (bytes_eq f.name name) as (λ b. bytes_eq f.name name ≡ b → cond b (Some n) (position_from (λ other. bytes_eq other name) (n + 1) (names_of fs)) ≡ None → AllByRecursion (λ (g : NamedFile). g.name ≡ name → ⊥) (f ∷ fs)) [
      | true ↦ λ is e. absurd (let no : ⊥ = cc in no)
      | false ↦ λ is e. (differs f.name name is, none_from (n + 1) fs name e)
    ] refl h

-- ---- numbers and places

-- the number of a file stands at its place, among the numbers of the files that live
pub place_there : (files : Numbered) (number place : ℕ) → place_of files number ≡ Some place
    → (place < length files.numbers) × (slice_get files.numbers place ≡ Some number)
place_there files number place e =
    let found = position-Some (λ (n : ℕ). n == number) files.numbers place 0 e in
    let is : get_or files.numbers place 0 ≡ number = first_of (grind (arith, nat_tests), cc) in
    (found.0, slice_get-get_or files.numbers place 0 found.0 ∙ ap Some is)

-- numbers that rise differ
pub rise_least : (low high : ℕ) (ns : List ℕ) (k n : ℕ) → RiseFrom low high ns → slice_get ns k ≡ Some n → low ≤ n
rise_least low high [] k n h e = absurd (let no : ⊥ = cc in no)
rise_least low high (m ∷ ns) zero n h e = let same : m ≡ n = cc in omega (arith, same, h.0)
rise_least low high (m ∷ ns) (suc k) n h e = omega (arith, rise_least (m + 1) high ns k n h.2 e, h.0)

rise_once : (low high : ℕ) (ns : List ℕ) (i j n : ℕ) → RiseFrom low high ns → slice_get ns i ≡ Some n → slice_get ns j ≡ Some n → i ≡ j
rise_once low high [] i j n h a b = absurd (let no : ⊥ = cc in no)
rise_once low high (m ∷ ns) zero zero n h a b = refl
rise_once low high (m ∷ ns) zero (suc j) n h a b = let same : m ≡ n = cc in absurd (let no : ⊥ = omega (arith, rise_least (m + 1) high ns j n h.2 b, same) in no)
rise_once low high (m ∷ ns) (suc i) zero n h a b = let same : m ≡ n = cc in absurd (let no : ⊥ = omega (arith, rise_least (m + 1) high ns i n h.2 a, same) in no)
rise_once low high (m ∷ ns) (suc i) (suc j) n h a b = ap suc (rise_once (m + 1) high ns i j n h.2 a b)

name_at : (files : List NamedFile) (place : ℕ) (f : NamedFile) → slice_get files place ≡ Some f → get_or (names_of files) place [] ≡ f.name
name_at [] place f e = absurd (let no : ⊥ = cc in no)
name_at (g ∷ files) zero f e = let same : g ≡ f = cc in ap (λ (h : NamedFile). h.name) same
name_at (g ∷ files) (suc place) f e = name_at files place f e

-- the file of a name's number has that name
pub number_has_name : (files : Numbered) (name : List ℕ) (number place : ℕ) (f : NamedFile) → AreNumbered files → number_named (directory files) name ≡ Some number
    → place_of files number ≡ Some place → slice_get files.living place ≡ Some f → f.name ≡ name
number_has_name files name number place f are named is at =
    let found = at_some files.numbers (position (λ other. bytes_eq other name) (names_of files.living)) number named in
    let there = place_there files number place is in
    let same : found.0 ≡ place = rise_once 0 files.made files.numbers found.0 place number are.rise found.2 there.1 in
    let has = position-Some (λ other. bytes_eq other name) (names_of files.living) found.0 [] found.1 in
    sym (name_at files.living place f at) ∙ ap (λ (k : ℕ). get_or (names_of files.living) k []) (sym same) ∙ (bytes_eq-Decides (get_or (names_of files.living) found.0 []) name).0 has.1

-- ---- names

-- a place among as many
at_none : {A B : Type 0} (xs : List A) (ys : List B) (test : B → Bool) → length xs ≡ length ys → at_place xs (position test ys) ≡ None → position test ys ≡ None
at_none xs ys test same e = go (position test ys) refl e
  where
    past : {C : Type 0} (zs : List C) (k : ℕ) → slice_get zs k ≡ None → length zs ≤ k
    past [] k h = omega arith
    past (z ∷ zs) zero h = absurd (let no : ⊥ = cc in no)
    past (z ∷ zs) (suc k) h = omega (arith, past zs k h)

    within : {C : Type 0} (zs : List C) (p : C → Bool) (k : ℕ) → position p zs ≡ Some k → k < length zs
    within [] p k h = absurd (let no : ⊥ = cc in no)
    within (z ∷ zs) p k h = (position-Some p (z ∷ zs) k z h).0

    go : (o : Option ℕ) → position test ys ≡ o → at_place xs o ≡ None → position test ys ≡ None
    go None is h = is
    go (Some k) is h = absurd (let no : ⊥ = omega (arith, past xs k h, within ys test k is, same) in no)

-- a name that is not found is new
pub name_new : (files : Numbered) (name : List ℕ) → length files.numbers ≡ length files.living → number_named (directory files) name ≡ None
    → AllByRecursion (λ (f : NamedFile). f.name ≡ name → ⊥) files.living
name_new files name same h =
    none_from 0 files.living name (sym (position_from-zero (λ other. bytes_eq other name) (names_of files.living))
    ∙ at_none files.numbers (names_of files.living) (λ other. bytes_eq other name) (same ∙ sym (length-map files.living (λ (f : NamedFile). f.name))) h)
