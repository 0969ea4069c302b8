-- What it means that a file has no fault.
use Rattle.std.specs.Prelude.{◌≡◌, ◌≢◌, ℕ, ◌+◌, ◌*◌, ◌%◌, ◌<◌, ◌≤◌, ◌↔◌, List, length, take, sum_by, All, Any, AllPairs, IsBitSet, None}
use Rattle.image_model.specs.declared.header.FileHeader.{FileHeader}
use Rattle.image_model.specs.declared.header.ProgramHeader.{ProgramHeader}
use Rattle.image_model.specs.Fields.{file_header, program_headers}
use Rattle.image_model.specs.Checks.{first_page_of, last_page_of, page_count_of, first_fault}
use Rattle.elf32.specs.Files.{identification}

-- An executable file (2) for RISC-V (243) of version 1. Its 1 to 4 program headers, of 32 bytes each, follow the file header
-- of 52 bytes; it has no sections and no flags.
pub record IsExecutable (h : FileHeader) : Type 0 where
  pub executable : h.e_type ≡ 2
  pub riscv : h.e_machine ≡ 243
  pub version : h.e_version ≡ 1
  pub header_size : h.e_ehsize ≡ 52
  pub table_offset : h.e_phoff ≡ 52
  pub table_entry_size : h.e_phentsize ≡ 32
  pub some : 1 ≤ h.e_phnum
  pub few : h.e_phnum ≤ 4
  pub no_flags : h.e_flags ≡ 0
  pub no_section_offset : h.e_shoff ≡ 0
  pub no_section_size : h.e_shentsize ≡ 0
  pub no_sections : h.e_shnum ≡ 0
  pub no_section_names : h.e_shstrndx ≡ 0

-- A program header that may be loaded from a file of this length. Its type is 1, and it is aligned to pages of 4,096 bytes. In its
-- flags bit 0 is X, bit 1 W and bit 2 R: some of them are set, and no others. It takes some memory, at the same place of a page as
-- its bytes in the file, of which there are no more. Its bytes lie within the file, its memory within the addresses from 0x00010000
-- up to 0x7FFF0000.
pub record IsLoadableFrom (end : ℕ) (h : ProgramHeader) : Type 0 where
  pub loaded : h.p_type ≡ 1
  pub page_aligned : h.p_align ≡ 4096
  pub some_right : h.p_flags ≢ 0
  pub known_rights : h.p_flags ≤ 7
  pub present : h.p_memsz ≢ 0
  pub placed : h.p_offset % 4096 ≡ h.p_vaddr % 4096
  pub within_memory : h.p_filesz ≤ h.p_memsz
  pub within_file : h.p_offset + h.p_filesz ≤ end
  pub above : 0x00010000 ≤ h.p_vaddr
  pub below : h.p_vaddr + h.p_memsz ≤ 0x7FFF0000

-- an address lies in a segment with X
pub record HasCodeAt (at : ℕ) (h : ProgramHeader) : Type 0 where
  pub executable : IsBitSet h.p_flags 0
  pub begun : h.p_vaddr ≤ at
  pub not_ended : at < h.p_vaddr + h.p_memsz

-- A file that may be loaded. It has a file header, which begins with the identification, and its program headers lie within it.
-- Each of them may be loaded, they have at most 60 pages in all, and each ends on a page below those of all later ones. The entry
-- is a multiple of 4 in a segment with X.
pub record IsSound (file : List ℕ) : Type 0 where
  pub whole_header : 52 ≤ length file
  pub identified : take 16 file ≡ identification
  pub header : IsExecutable (file_header file)
  pub whole_table : 52 + 32 * (file_header file).e_phnum ≤ length file
  pub segments : All (IsLoadableFrom (length file)) (program_headers file)
  pub small : sum_by page_count_of (program_headers file) ≤ 60
  pub apart : AllPairs (λ h later. last_page_of h < first_page_of later) (program_headers file)
  pub aligned : (file_header file).e_entry % 4 ≡ 0
  pub in_code : Any (HasCodeAt (file_header file).e_entry) (program_headers file)

-- a file has no fault exactly where it may be loaded
abbrev pub SoundFiles : Type 0
SoundFiles = (file : List ℕ) → (first_fault file ≡ None) ↔ IsSound file
