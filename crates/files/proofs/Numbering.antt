-- Numbers beside files.
use Rattle.std.proofs.Common.{◌≡◌, ℕ, zero, suc, ◌+◌, ◌<◌, ◌≤◌, ◌-◌, List, [], ◌∷◌, ◌++◌, length, take, drop, Option, sym, ap, ◌∙◌, arith, length-append}
use Rattle.std.specs.List.{remove}
use Rattle.std.proofs.lemmas.List.{take_all, drop_all, append-nil, length-take, length-drop}
use Rattle.disk_model.specs.Numbers.{numbers_from}
use Rattle.disk_model.specs.Files.{with_name}
use Rattle.disk_model.specs.declared.change.NamedFile.{NamedFile}
use Rattle.disk_model.proofs.Numbering.{numbers_length, name_length}

next_from : (n k : ℕ) (files : List NamedFile) → k < length files → take (suc k) (numbers_from n files) ≡ take k (numbers_from n files) ++ (n + k) ∷ []
next_from n k [] h = absurd (let no : ⊥ = omega arith in no)
next_from n zero (f ∷ fs) h = let same : n ≡ n + 0 = omega arith in ap (λ m. m ∷ []) same
next_from n (suc k) (f ∷ fs) h =
    let same : n + 1 + k ≡ n + suc k = omega arith in
    ap (λ l. n ∷ l) (next_from (n + 1) k fs (omega arith)) ∙ ap (λ m. n ∷ (take k (numbers_from (n + 1) fs) ++ m ∷ [])) same

-- one number more
pub next_number : (k : ℕ) (files : List NamedFile) → k < length files → take (k + 1) (numbers_from 0 files) ≡ take k (numbers_from 0 files) ++ k ∷ []
next_number k files h = let same : 0 + k ≡ k = omega arith in let next : k + 1 ≡ suc k = omega arith in
    ap (λ j. take j (numbers_from 0 files)) next ∙ next_from 0 k files h ∙ ap (λ m. take k (numbers_from 0 files) ++ m ∷ []) same

-- all of them
pub all_numbers : (k : ℕ) (files : List NamedFile) → k ≡ length files → take k (numbers_from 0 files) ≡ numbers_from 0 files
all_numbers k files h = take_all k (numbers_from 0 files) (omega (arith, numbers_length 0 files))

-- what is not there is not taken away
pub remove_none : {A : Type 0} (xs : List A) (n : ℕ) → length xs ≤ n → remove xs n ≡ xs
remove_none xs n h = ap (λ l. l ++ drop (suc n) xs) (take_all n xs h) ∙ ap (λ l. xs ++ l) (drop_all (suc n) xs (omega arith)) ∙ append-nil xs

remove_length : {A : Type 0} (xs : List A) (n : ℕ) → n < length xs → length (remove xs n) ≡ length xs - 1
remove_length xs n h = omega (arith, length-append (take n xs) (drop (suc n) xs), length-take n xs, length-drop (suc n) xs)

-- one file fewer, and one number fewer
pub moved_length : (files : List NamedFile) (numbers : List ℕ) (place : ℕ) (o : Option NamedFile) (name : List ℕ) (l : ℕ)
    → length numbers ≡ length files → l < length files → length (remove numbers l) ≡ length (remove (with_name files place o name) l)
moved_length files numbers place o name l same h =
    remove_length numbers l (omega arith) ∙ ap (λ n. n - 1) same
    ∙ sym (remove_length (with_name files place o name) l (omega (arith, name_length files place o name)) ∙ ap (λ n. n - 1) (name_length files place o name))
