-- The changes of a checkpoint, write by write and file by file.
use Rattle.std.proofs.Common.{◌≡◌, ℕ, zero, suc, ◌+◌, ◌<◌, ◌≤◌, min, List, [], ◌∷◌, ◌++◌, length, get_or, take, drop, refl, sym, ap, ◌∙◌, append_assoc, arith}
use Rattle.std.specs.List.{AllByRecursion}
use Rattle.std.proofs.lemmas.List.{drop_more, drop_all, append-nil, length-drop}
use Rattle.disk_model.specs.declared.change.Change.{Change}
use Rattle.disk_model.specs.declared.change.Change.TheVariants.{Create, Write}
use Rattle.disk_model.specs.declared.change.NamedFile.{NamedFile}
use Rattle.disk_model.specs.Rebuild.{writes_from, changes_making, rebuild_from, rebuild}
use Rattle.disk_model.proofs.Lists.{least_of}

-- the first argument of writes_from may be any number that is at least the length
enough : (n m size file offset : ℕ) (bytes : List ℕ) → length bytes ≤ n → length bytes ≤ m → 1 ≤ size → writes_from n size file offset bytes ≡ writes_from m size file offset bytes
enough zero zero size file offset bytes a b some = refl
enough zero (suc m) size file offset [] a b some = refl
enough zero (suc m) size file offset (x ∷ bytes) a b some = absurd (omega arith)
enough (suc n) zero size file offset [] a b some = refl
enough (suc n) zero size file offset (x ∷ bytes) a b some = absurd (omega arith)
enough (suc n) (suc m) size file offset [] a b some = refl
enough (suc n) (suc m) size file offset (x ∷ bytes) a b some =
    ap (λ (l : List Change). Write file offset (take size (x ∷ bytes)) ∷ l)
    (enough n m size file (offset + size) (drop size (x ∷ bytes)) (omega (arith, length-drop size (x ∷ bytes))) (omega (arith, length-drop size (x ∷ bytes))) some)

first_write : (size file offset : ℕ) (rest : List ℕ) → 0 < length rest → 1 ≤ size
    → writes_from (length rest) size file offset rest ≡ Write file offset (take size rest) ∷ writes_from (length (drop size rest)) size file (offset + size) (drop size rest)
first_write size file offset [] some one = absurd (omega arith)
first_write size file offset (x ∷ rest) some one =
    ap (λ (k : ℕ). writes_from k size file offset (x ∷ rest)) (let e : length (x ∷ rest) ≡ suc (length rest) = omega arith in e)
    ∙ ap (λ (l : List Change). Write file offset (take size (x ∷ rest)) ∷ l)
    (enough (length rest) (length (drop size (x ∷ rest))) size file (offset + size) (drop size (x ∷ rest)) (omega (arith, length-drop size (x ∷ rest))) (omega arith) one)

-- one more write
pub writes_more : (size : ℕ) (out : List Change) (file offset n : ℕ) (rest : List ℕ) (total : List Change) → 0 < length rest → 1 ≤ size → n ≡ min (length rest) size
    → out ++ writes_from (length rest) size file offset rest ≡ total
    → out ++ Write file offset (take n rest) ∷ [] ++ writes_from (length (drop n rest)) size file (offset + size) (drop n rest) ≡ total
writes_more size out file offset n rest total some one e so_far =
    let m = least_of n size rest e in
    append_assoc out (Write file offset (take n rest) ∷ []) (writes_from (length (drop n rest)) size file (offset + size) (drop n rest))
    ∙ ap (λ (l : List ℕ). out ++ (Write file offset l ∷ writes_from (length (drop n rest)) size file (offset + size) (drop n rest))) m.0
    ∙ ap (λ (l : List ℕ). out ++ (Write file offset (take size rest) ∷ writes_from (length l) size file (offset + size) l)) m.1
    ∙ ap (λ (l : List Change). out ++ l) (sym (first_write size file offset rest some one)) ∙ so_far

pub file_first : (files : List NamedFile) → [] ++ rebuild_from 0 (drop 0 files) ≡ rebuild files
unfolding rebuild
file_first files = refl

-- one more file
pub file_more : (out : List Change) (files : List NamedFile) (i : ℕ) (d : NamedFile) (total : List Change) → i < length files → out ++ rebuild_from i (drop i files) ≡ total
    → (out ++ Create (get_or files i d).name ∷ [] ++ writes_from (length (get_or files i d).bytes) 1024 i 0 (get_or files i d).bytes) ++ rebuild_from (i + 1) (drop (i + 1) files) ≡ total
unfolding changes_making
file_more out files i d total lt so_far =
    ap (λ (l : List Change). l ++ rebuild_from (i + 1) (drop (i + 1) files)) (append_assoc out (Create (get_or files i d).name ∷ []) (writes_from (length (get_or files i d).bytes) 1024 i 0 (get_or files i d).bytes))
    ∙ append_assoc out (changes_making i (get_or files i d)) (rebuild_from (i + 1) (drop (i + 1) files))
    ∙ ap (λ (l : List NamedFile). out ++ rebuild_from i l) (sym (drop_more files i d lt)) ∙ so_far

-- no file more
pub file_end : (out : List Change) (files : List NamedFile) (i : ℕ) (total : List Change) → length files ≤ i → out ++ rebuild_from i (drop i files) ≡ total → out ≡ total
file_end out files i total le so_far = sym (append-nil out) ∙ ap (λ (l : List NamedFile). out ++ rebuild_from i l) (sym (drop_all i files le)) ∙ so_far

-- each file is short
pub short_at : (files : List NamedFile) (i : ℕ) (d : NamedFile) → AllByRecursion (λ (f : NamedFile). length f.bytes ≤ 16384) files → i < length files → length (get_or files i d).bytes ≤ 16384
short_at [] i d all lt = absurd (omega arith)
short_at (f ∷ files) zero d all lt = all.0
short_at (f ∷ files) (suc i) d all lt = short_at files i d all.1 (omega arith)
