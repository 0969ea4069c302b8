-- How many numbers and files there are.
use Rattle.std.proofs.Common.{◌≡◌, ℕ, suc, ◌+◌, List, [], ◌∷◌, length, Option, Some, None, refl, ap}
use Rattle.std.proofs.lemmas.List.{length-set}
use Rattle.disk_model.specs.Files.{with_name}
use Rattle.disk_model.specs.Numbers.{numbers_from}
use Rattle.disk_model.specs.declared.change.NamedFile.{NamedFile}

pub numbers_length : (low : ℕ) (files : List NamedFile) → length (numbers_from low files) ≡ length files
numbers_length low [] = refl
numbers_length low (f ∷ fs) = ap suc (numbers_length (low + 1) fs)

pub name_length : (files : List NamedFile) (place : ℕ) (o : Option NamedFile) (name : List ℕ) → length (with_name files place o name) ≡ length files
name_length files place None name = refl
name_length files place (Some file) name = length-set files place (record { name = name; bytes = file.bytes })
