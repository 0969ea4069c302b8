-- Files by their names: the number at the place that the table of files finds is the number that the table of calls says.
use Rattle.std.proofs.Common.{◌≡◌, ℕ, ◌+◌, ◌<◌, cond, List, [], ◌∷◌, length, get_or, Option, Some, None, refl, sym, ap, ◌∙◌, arith}
use Rattle.std.specs.List.{position, position_from}
use Rattle.std.specs.Str.{bytes_eq}
use Rattle.std.proofs.lemmas.Iterator.Adapters.{position_from-zero}
use Rattle.std.proofs.lemmas.Option.{slice_get-get_or}
use Rattle.disk_model.specs.Files.{place_named}
use Rattle.disk_model.specs.Numbers.{Numbered, at_place}
use Rattle.disk_model.specs.declared.change.NamedFile.{NamedFile}
use Rattle.kernel_model.specs.Limits.{AreNumbered}
use Rattle.kernel_model.specs.Rows.{directory, names_of, number_named}

named_from : (n : ℕ) (files : List NamedFile) (name : List ℕ)
    → position_from (λ (f : NamedFile). bytes_eq f.name name) n files ≡ position_from (λ other. bytes_eq other name) n (names_of files)
named_from n [] name = refl
named_from n (f ∷ fs) name = ap (λ (o : Option ℕ). cond (bytes_eq f.name name) (Some n) o) (named_from (n + 1) fs name)

-- the place of a file is the place of its name
place-among : (files : List NamedFile) (name : List ℕ) → place_named files name ≡ position (λ other. bytes_eq other name) (names_of files)
place-among files name =
    position_from-zero (λ (f : NamedFile). bytes_eq f.name name) files
    ∙ named_from 0 files name
    ∙ sym (position_from-zero (λ other. bytes_eq other name) (names_of files))

-- where no place has a name, no number does
pub none-named : (files : Numbered) (name : List ℕ) → place_named files.living name ≡ None → None ≡ number_named (directory files) name
none-named files name none = ap (at_place files.numbers) (sym none ∙ place-among files.living name)

-- the number at the place of a name is the number of the name
pub number-named : (files : Numbered) (name : List ℕ) (place : ℕ) → AreNumbered files → place < length files.living
    → place_named files.living name ≡ Some place
    → Some (get_or files.numbers place 0) ≡ number_named (directory files) name
number-named files name place are lt is =
    let there : place < length files.numbers = omega (arith, lt, are.each) in
    sym (slice_get-get_or files.numbers place 0 there) ∙ ap (at_place files.numbers) (sym is ∙ place-among files.living name)
