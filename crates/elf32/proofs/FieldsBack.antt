-- Headers that were written are read again.
use Rattle.std.proofs.Common.{◌≡◌, ℕ, ◌^◌, ◌<◌, ◌≤◌, Bool, true, false, cond, List, [], ◌∷◌, ◌++◌, length, refl, ap, ◌∙◌, arith}
use Rattle.std.specs.List.{AllByRecursion}
use Rattle.memory_model.specs.Access.{low_bytes}
use Rattle.memory_model.specs.declared.access.Rights.{Rights}
use Rattle.image_model.specs.declared.header.FileHeader.{FileHeader}
use Rattle.image_model.specs.declared.header.ProgramHeader.{ProgramHeader}
use Rattle.machine_model.specs.declared.image.Segment.{Segment}
use Rattle.machine_model.specs.Images.{IsLoadable}
use Rattle.image_model.specs.Fields.{half_at, word_at, file_header, program_header, headers_in}
use Rattle.memory_model.specs.Bytes.{value_in}
use Rattle.elf32.specs.Files.{AreNear, file_header_of, flags_of, program_header_of, offset_after, end_after, table_after}

half_back : (n : ℕ) → n < 2 ^ 16 → value_in (low_bytes 2 n) 0 2 ≡ n
half_back n small = omega (arith, small)

word_back : (n : ℕ) → n < 2 ^ 32 → value_in (low_bytes 4 n) 0 4 ≡ n
word_back n small = omega (arith, small)

-- the file header of a program
abbrev pub header_for : ℕ → ℕ → FileHeader
header_for entry count = record {
  e_type = 2;
  e_machine = 243;
  e_version = 1;
  e_entry = entry;
  e_phoff = 52;
  e_shoff = 0;
  e_flags = 0;
  e_ehsize = 52;
  e_phentsize = 32;
  e_phnum = count;
  e_shentsize = 0;
  e_shnum = 0;
  e_shstrndx = 0;
}

pub file_header_back : (entry count : ℕ) (rest : List ℕ) → entry < 2 ^ 32 → count < 2 ^ 16 → file_header (file_header_of entry count ++ rest) ≡ header_for entry count
unfolding half_at word_at file_header file_header_of
file_header_back entry count rest small few =
    ap (λ (n : ℕ). header_for n (value_in (low_bytes 2 count) 0 2)) (word_back entry small)
    ∙ ap (λ (n : ℕ). header_for entry n) (half_back count few)

-- a program header of these words
abbrev made : ℕ → ℕ → ℕ → ℕ → ℕ → ProgramHeader
made offset vaddr filesz memsz flags = record {
  p_type = 1;
  p_offset = offset;
  p_vaddr = vaddr;
  p_paddr = vaddr;
  p_filesz = filesz;
  p_memsz = memsz;
  p_flags = flags;
  p_align = 4096;
}

-- the program header of a segment whose bytes lie at this offset
abbrev pub program_header_for : ℕ → Segment → ProgramHeader
program_header_for offset s = made offset s.vaddr (length s.bytes) s.memsz (flags_of s.rights)

-- the word as it is read
abbrev as_read : ℕ → ℕ
as_read n = value_in (low_bytes 4 n) 0 4

at_most : (b : Bool) (n : ℕ) → cond b n 0 ≤ n
at_most true n = omega arith
at_most false n = omega arith

flags_small : (r : Rights) → flags_of r < 2 ^ 32
flags_small r = omega (arith, at_most r.read 4, at_most r.write 2, at_most r.execute 1)

pub program_header_back : (offset : ℕ) (s : Segment) (rest : List ℕ) → offset < 2 ^ 32 → IsLoadable s → program_header (program_header_of offset s ++ rest) ≡ program_header_for offset s
unfolding word_at program_header program_header_of
program_header_back offset s rest near load =
    ap (λ (n : ℕ). made n (as_read s.vaddr) (as_read (length s.bytes)) (as_read s.memsz) (as_read (flags_of s.rights))) (word_back offset near)
    ∙ ap (λ (n : ℕ). made offset n (as_read (length s.bytes)) (as_read s.memsz) (as_read (flags_of s.rights))) (word_back s.vaddr (omega (arith, load.below)))
    ∙ ap (λ (n : ℕ). made offset s.vaddr n (as_read s.memsz) (as_read (flags_of s.rights))) (word_back (length s.bytes) (omega (arith, load.within, load.below)))
    ∙ ap (λ (n : ℕ). made offset s.vaddr (length s.bytes) n (as_read (flags_of s.rights))) (word_back s.memsz (omega (arith, load.below)))
    ∙ ap (λ (n : ℕ). made offset s.vaddr (length s.bytes) s.memsz n) (word_back (flags_of s.rights) (flags_small s.rights))

-- the program headers of segments after bytes that end here
abbrev pub headers_for : ℕ → List Segment → List ProgramHeader
headers_for end [] = []
headers_for end (s ∷ ss) = program_header_for (offset_after end s) s ∷ headers_for (end_after end s) ss

pub table_back : (end : ℕ) (ss : List Segment) (rest : List ℕ) → AreNear end ss → AllByRecursion IsLoadable ss → headers_in (length ss) (table_after end ss ++ rest) ≡ headers_for end ss
unfolding program_header_of
table_back end [] rest near load = refl
table_back end (s ∷ ss) rest near load =
    ap (λ (h : ProgramHeader). h ∷ headers_in (length ss) (table_after (end_after end s) ss ++ rest))
    (program_header_back (offset_after end s) s (table_after (end_after end s) ss ++ rest) (omega (arith, near.1)) load.0)
    ∙ ap (λ (hs : List ProgramHeader). program_header_for (offset_after end s) s ∷ hs) (table_back (end_after end s) ss rest near.2 load.1)
