-- The program that a linked file names.
use Rattle.std.specs.Prelude.{◌≡◌, ℕ, List, map, Some, None, ◌⊎◌}
use Rattle.image_model.specs.Fields.{file_header}
use Rattle.image_model.specs.Names.{segment_in}
use Rattle.machine_model.specs.Images.{Program}
use Rattle.elf32.specs.declared.link_fault.LinkFault.{LinkFault}
use Rattle.elf32.specs.declared.link_fault.LinkFault.TheVariants.{OutOfMemory}
use Rattle.elf32.specs.LinkChecks.{loaded_of, first_fault}

-- The entry of the file header, and in the order of the program headers each segment that takes memory: its address, size and rights,
-- and its bytes in the file.
unfoldable pub linked_program : List ℕ → Program
linked_program file = record { entry = (file_header file).e_entry; segments = map (segment_in file) (loaded_of file) }

-- a file has no fault, and names this program
pub record IsLinked (file : List ℕ) (program : Program) : Type 0 where
  pub sound : first_fault file ≡ None
  pub named : program ≡ linked_program file

-- why a file is refused: its first fault, or want of memory
abbrev pub IsRefused : List ℕ → LinkFault → Type 0
IsRefused file why = (first_fault file ≡ Some why) ⊎ (why ≡ OutOfMemory)
