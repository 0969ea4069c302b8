-- The numbers of files: they rise, each below the number of the next file, which never falls.
use Rattle.std.proofs.Common.{◌≡◌, ℕ, zero, suc, ◌+◌, ◌≤◌, List, [], ◌∷◌, ◌++◌, length, take, drop, Option, Some, None, refl, sym, ◌∙◌, subst, arith, length-append}
use Rattle.std.specs.Prelude.{slice_get}
use Rattle.std.specs.List.{remove}
use Rattle.std.proofs.lemmas.List.{length-take, length-drop, length-set}
use Rattle.disk_model.specs.Files.{loser, patched, with_bytes, with_name, without}
use Rattle.disk_model.specs.Numbers.{Numbered, numbered, numbers_from}
use Rattle.disk_model.specs.declared.change.Change.{Change}
use Rattle.disk_model.specs.declared.change.Change.TheVariants as change
use Rattle.disk_model.specs.declared.change.NamedFile.{NamedFile}
use Rattle.disk_model.proofs.Numbering.{numbers_length, name_length}
use Rattle.kernel_model.specs.Limits.{AreNumbered, RiseFrom}
use Rattle.kernel_model.specs.State.{changed_by}

-- the number of the next file never falls
pub made_grows : (files : Numbered) (o : Option Change) → files.made ≤ (changed_by files o).made
made_grows files None = omega arith
made_grows files (Some (change.Create name)) = omega arith
made_grows files (Some (change.Write place offset bytes)) = omega arith
made_grows files (Some (change.Empty place)) = omega arith
made_grows files (Some (change.Remove place)) = omega arith
made_grows files (Some (change.Rename place name)) = omega arith

numbers_rise : (low : ℕ) (files : List NamedFile) → RiseFrom low (low + length files) (numbers_from low files)
numbers_rise low [] = tt
numbers_rise low (f ∷ fs) =
    let same : low + 1 + length fs ≡ low + length (f ∷ fs) = omega arith in
    (omega arith, omega arith, subst (λ (high : ℕ). RiseFrom (low + 1) high (numbers_from (low + 1) fs)) same (numbers_rise (low + 1) fs))

-- nor does it rise by more than one
pub made_by_one : (files : Numbered) (o : Option Change) → (changed_by files o).made ≤ files.made + 1
made_by_one files None = omega arith
made_by_one files (Some (change.Create name)) = omega arith
made_by_one files (Some (change.Write place offset bytes)) = omega arith
made_by_one files (Some (change.Empty place)) = omega arith
made_by_one files (Some (change.Remove place)) = omega arith
made_by_one files (Some (change.Rename place name)) = omega arith

-- files are numbered as a run begins
pub numbered_first : (files : List NamedFile) → AreNumbered (numbered files)
numbered_first files =
    let same : 0 + length files ≡ length files = omega arith in
    record { each = numbers_length 0 files; rise = subst (λ (high : ℕ). RiseFrom 0 high (numbers_from 0 files)) same (numbers_rise 0 files) }

rise_last : (low high : ℕ) (ns : List ℕ) → low ≤ high → RiseFrom low high ns → RiseFrom low (high + 1) (ns ++ high ∷ [])
rise_last low high [] le h = (le, omega arith, tt)
rise_last low high (n ∷ ns) le h = (h.0, omega (arith, h.1), rise_last (n + 1) high ns (omega (arith, h.1)) h.2)

rise_lower : (low from high : ℕ) (ns : List ℕ) → low ≤ from → RiseFrom from high ns → RiseFrom low high ns
rise_lower low from high [] le h = tt
rise_lower low from high (n ∷ ns) le h = (omega (arith, h.0), h.1, h.2)

rise_remove : (low high : ℕ) (ns : List ℕ) (k : ℕ) → RiseFrom low high ns → RiseFrom low high (remove ns k)
rise_remove low high [] zero h = tt
rise_remove low high [] (suc k) h = tt
rise_remove low high (n ∷ ns) zero h = rise_lower low (n + 1) high ns (omega (arith, h.0)) h.2
rise_remove low high (n ∷ ns) (suc k) h = (h.0, h.1, rise_remove (n + 1) high ns k h.2)

rise_without : (high : ℕ) (ns : List ℕ) (o : Option ℕ) → RiseFrom 0 high ns → RiseFrom 0 high (without ns o)
rise_without high ns None h = h
rise_without high ns (Some k) h = rise_remove 0 high ns k h

without_length : {A B : Type 0} (xs : List A) (ys : List B) (o : Option ℕ) → length xs ≡ length ys → length (without xs o) ≡ length (without ys o)
without_length xs ys None same = same
without_length xs ys (Some k) same = omega (
  arith,
  same,
  length-append (take k xs) (drop (suc k) xs),
  length-append (take k ys) (drop (suc k) ys),
  length-take k xs,
  length-take k ys,
  length-drop (suc k) xs,
  length-drop (suc k) ys,
)

bytes_length : (files : List NamedFile) (place : ℕ) (o : Option NamedFile) (f : List ℕ → List ℕ) → length (with_bytes files place o f) ≡ length files
bytes_length files place None f = refl
bytes_length files place (Some file) f = length-set files place (record { name = file.name; bytes = f file.bytes })

-- they are so after each change
pub numbered_changed : (files : Numbered) (o : Option Change) → AreNumbered files → AreNumbered (changed_by files o)
numbered_changed files None are = are
numbered_changed files (Some (change.Create name)) are = record {
  each = omega (arith, are.each, length-append files.numbers (files.made ∷ []), length-append files.living (record { name = name; bytes = [] } ∷ []));
  rise = rise_last 0 files.made files.numbers (omega arith) are.rise;
}
numbered_changed files (Some (change.Write place offset bytes)) are = record {
  each = are.each ∙ sym (bytes_length files.living place (slice_get files.living place) (λ old. patched old offset bytes));
  rise = are.rise;
}
numbered_changed files (Some (change.Empty place)) are = record {
  each = are.each ∙ sym (bytes_length files.living place (slice_get files.living place) (λ old. []));
  rise = are.rise;
}
numbered_changed files (Some (change.Remove place)) are = record {
  each = without_length files.numbers files.living (Some place) are.each;
  rise = rise_remove 0 files.made files.numbers place are.rise;
}
numbered_changed files (Some (change.Rename place name)) are =
    let o = slice_get files.living place in
    let lost = loser files.living o name in
    record {
      each = without_length files.numbers (with_name files.living place o name) lost (are.each ∙ sym (name_length files.living place o name));
      rise = rise_without files.made files.numbers lost are.rise;
    }
