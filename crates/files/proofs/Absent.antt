-- A change whose file is not there changes nothing, and a write whose file is there.
use Rattle.std.proofs.Common.{◌≡◌, ℕ, ◌+◌, ◌<◌, ◌≤◌, true, false, List, [], length, Option, Some, sym, ap, subst, ◌∙◌, arith}
use Rattle.std.specs.List.{remove}
use Rattle.std.proofs.lemmas.Bool.{false≢true, ltb-false, ltb-true}
use Rattle.std.proofs.lemmas.Option.{slice_get_past, slice_get-get_or}
use Rattle.std.specs.Prelude.{IfSome, slice_get, slice_index_or}
use Rattle.disk_model.specs.declared.change.NamedFile.{NamedFile}
use Rattle.disk_model.specs.declared.change.Change.{Change}
use Rattle.disk_model.specs.declared.change.Change.TheVariants.{Create, Write, Empty, Remove, Rename}
use Rattle.disk_model.specs.Files.{changed, with_bytes, with_name, without, loser, patched}
use Rattle.disk_model.specs.Numbers.{Numbered, changed_numbered}
use Rattle.files.specs.There.{has_its_file}
use Rattle.files.proofs.Numbering.{remove_none}

unchanged : (files : List NamedFile) (place : ℕ) (f : List ℕ → List ℕ) → length files ≤ place → with_bytes files place (slice_get files place) f ≡ files
unchanged files place f none = ap (λ (o : Option NamedFile). with_bytes files place o f) (slice_get_past files place none)

pub absent : (c : Change) (files : List NamedFile) → has_its_file c (length files) ≡ false → changed files c ≡ files
absent (Create name) files none = absurd (false≢true (sym none))
absent (Write place offset bytes) files none = unchanged files place (λ old. patched old offset bytes) (ltb-false place (length files) none)
absent (Empty place) files none = unchanged files place (λ old. []) (ltb-false place (length files) none)
absent (Remove place) files none = remove_none files place (ltb-false place (length files) none)
absent (Rename place name) files none =
    let o = slice_get_past files place (ltb-false place (length files) none) in
    ap (λ (o : Option NamedFile). without (with_name files place o name) (loser files o name)) o

-- nor do the numbers change
pub absent_numbered : (c : Change) (files : Numbered) → length files.numbers ≡ length files.living → has_its_file c (length files.living) ≡ false
    → changed_numbered files c ≡ files
absent_numbered (Create name) files same none = absurd (false≢true (sym none))
absent_numbered (Write place offset bytes) files same none =
    ap (λ (living : List NamedFile). record files { living = living }) (absent (Write place offset bytes) files.living none)
absent_numbered (Empty place) files same none = ap (λ (living : List NamedFile). record files { living = living }) (absent (Empty place) files.living none)
absent_numbered (Remove place) files same none =
    let gone = ltb-false place (length files.living) none in
    ap (λ (living : List NamedFile). record files { living = living; numbers = remove files.numbers place }) (remove_none files.living place gone)
    ∙ ap (λ (numbers : List ℕ). record files { numbers = numbers }) (remove_none files.numbers place (omega arith))
absent_numbered (Rename place name) files same none =
    let o = slice_get_past files.living place (ltb-false place (length files.living) none) in
    ap (λ (o : Option NamedFile). record files {
      living = without (with_name files.living place o name) (loser files.living o name);
      numbers = without files.numbers (loser files.living o name);
    }) o

-- what holds of the write that a change is, holds as the change's clause says it
pub inside_of : (files : List NamedFile) (c : Change) (file at : ℕ) (written : List ℕ) (P : Type 0) → has_its_file c (length files) ≡ true → c ≡ Write file at written
    → ((d : NamedFile) → at + length written ≤ length (slice_index_or files file d).bytes → P)
    → (place offset : ℕ) (bytes : List ℕ) → c ≡ Write place offset bytes
    → IfSome (slice_get files place) (λ (f : NamedFile). offset + length bytes ≤ length f.bytes) → P
inside_of files c file at written P there is gives place offset bytes also long =
    let none : NamedFile = record { name = []; bytes = [] } in
    let same : Write file at written ≡ Write place offset bytes = sym is ∙ also in
    let lt : file < length files = ltb-true file (length files) (ap (λ (x : Change). has_its_file x (length files)) (sym is) ∙ there) in
    let place_is : place ≡ file = cc in
    let offset_is : offset ≡ at = cc in
    let bytes_is : bytes ≡ written = cc in
    let found : slice_get files place ≡ Some (slice_index_or files file none) = ap (slice_get files) place_is ∙ slice_get-get_or files file none lt in
    let known : offset + length bytes ≤ length (slice_index_or files file none).bytes =
    subst (λ (o : Option NamedFile). IfSome o (λ (f : NamedFile). offset + length bytes ≤ length f.bytes)) found long in
    gives none (omega (arith, known, offset_is, ap (λ (l : List ℕ). length l) bytes_is))
