-- The program that a file names.
use Rattle.std.specs.Prelude.{◌≡◌, ℕ, List, take, drop, map, Some, None, ◌⊎◌}
use Rattle.image_model.specs.declared.fault.ElfFault.{ElfFault}
use Rattle.image_model.specs.declared.fault.ElfFault.TheVariants.{OutOfMemory}
use Rattle.image_model.specs.declared.header.ProgramHeader.{ProgramHeader}
use Rattle.machine_model.specs.declared.image.Segment.{Segment}
use Rattle.machine_model.specs.Images.{Program}
use Rattle.image_model.specs.Fields.{file_header, program_headers}
use Rattle.image_model.specs.Checks.{may_read, may_write, may_execute, first_fault}

-- The segment that a program header names: its address, size and rights, and its bytes in the file from its offset on. The physical
-- address says nothing.
unfoldable pub segment_in : List ℕ → ProgramHeader → Segment
segment_in file h = record {
  vaddr = h.p_vaddr;
  memsz = h.p_memsz;
  rights = record { read = may_read h; write = may_write h; execute = may_execute h };
  bytes = take h.p_filesz (drop h.p_offset file);
}

-- the entry and the segments that the headers name; bytes that no header names say nothing
unfoldable pub program_in : List ℕ → Program
program_in file = record { entry = (file_header file).e_entry; segments = map (segment_in file) (program_headers file) }

-- a file has no fault, and names this program
pub record Names (file : List ℕ) (program : Program) : Type 0 where
  pub sound : first_fault file ≡ None
  pub named : program ≡ program_in file

-- why a file is refused: its first fault, or want of memory where it has none
abbrev pub IsRefused : List ℕ → ElfFault → Type 0
IsRefused file why = (first_fault file ≡ Some why) ⊎ ((first_fault file ≡ None) × (why ≡ OutOfMemory))
