-- The file of a program names it alone.
use Rattle.std.proofs.Common.{◌≡◌, ℕ, List, Option, Some, None, sym, ◌∙◌, inl, inr}
use Rattle.machine_model.specs.Images.{Program, IsProfile}
use Rattle.image_model.specs.{Checks.first_fault, Names.IsRefused, declared.fault.ElfFault.ElfFault, declared.fault.ElfFault.TheVariants.OutOfMemory}
use Rattle.elf32.specs.Files.{file_of, RoundTrips}
use Rattle.source_laws.specs.Loaded.{NamesAlone}

only-memory : (file : List ℕ) → first_fault file ≡ None → (why : ElfFault) → IsRefused file why → why ≡ OutOfMemory
only-memory file sound why refused =
    elim refused [
      | inl f ↦ let no : ◌≡◌ {A = Option ElfFault} None (Some why) = sym sound ∙ f in absurd (let never : ⊥ = cc in never)
      | inr f ↦ f.1
    ]

pub names-alone : RoundTrips → (p : Program) → IsProfile p → NamesAlone (file_of p) p
names-alone back p profile =
    let r = back p profile in
    record {
      named = record { sound = r.0; named = sym r.1 };
      alone = λ q names. names.named ∙ r.1;
      refused = only-memory (file_of p) r.0;
    }
