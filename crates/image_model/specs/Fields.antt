-- The fields of an ELF32 file, by their names in the System V gABI. Each is little-endian.
use Rattle.std.specs.Prelude.{ℕ, zero, suc, List, [], ◌∷◌, drop}
use Rattle.memory_model.specs.Bytes.{value_in}
use Rattle.image_model.specs.declared.header.FileHeader.{FileHeader}
use Rattle.image_model.specs.declared.header.ProgramHeader.{ProgramHeader}

-- the half word at a place
unfoldable pub half_at : List ℕ → ℕ → ℕ
half_at bytes at = value_in bytes at 2

-- the word at a place
unfoldable pub word_at : List ℕ → ℕ → ℕ
word_at bytes at = value_in bytes at 4

-- The file header: after 16 bytes of identification two halves, five words and six halves, 52 bytes in all.
unfoldable pub file_header : List ℕ → FileHeader
file_header file = record {
  e_type = half_at file 16;
  e_machine = half_at file 18;
  e_version = word_at file 20;
  e_entry = word_at file 24;
  e_phoff = word_at file 28;
  e_shoff = word_at file 32;
  e_flags = word_at file 36;
  e_ehsize = half_at file 40;
  e_phentsize = half_at file 42;
  e_phnum = half_at file 44;
  e_shentsize = half_at file 46;
  e_shnum = half_at file 48;
  e_shstrndx = half_at file 50;
}

-- a program header: eight words
unfoldable pub program_header : List ℕ → ProgramHeader
program_header bytes = record {
  p_type = word_at bytes 0;
  p_offset = word_at bytes 4;
  p_vaddr = word_at bytes 8;
  p_paddr = word_at bytes 12;
  p_filesz = word_at bytes 16;
  p_memsz = word_at bytes 20;
  p_flags = word_at bytes 24;
  p_align = word_at bytes 28;
}

-- so many program headers, one after the other
abbrev pub headers_in : ℕ → List ℕ → List ProgramHeader
headers_in zero bytes = []
headers_in (suc n) bytes = program_header bytes ∷ headers_in n (drop 32 bytes)

-- the program headers of a file, as many as its header says, after the file header
unfoldable pub program_headers : List ℕ → List ProgramHeader
program_headers file = headers_in (file_header file).e_phnum (drop 52 file)
