-- The twelve checks of a file, in their order. Each is over all program headers before the next.
use Rattle.std.specs.Prelude.{ℕ, ◌+◌, ◌-◌, ◌*◌, ◌/◌, ◌%◌, ◌==◌, nat_eq, nat_lt, nat_le, bit_and, Bool, false, not, ◌&&◌, ◌||◌, if◌then◌else◌, List, [], ◌∷◌, ◌++◌, length, drop, sum_by, Option, Some, None}
use Rattle.std.specs.List.{list_any, starts_with}
use Rattle.image_model.specs.declared.fault.ElfFault.{ElfFault}
use Rattle.image_model.specs.declared.fault.ElfFault.TheVariants.{Short, BadMagic, BadIdent, BadKind, BadHeader, ShortTable, BadSegment, BadSize, PastEnd, BadRange, Overlap, BadEntry}
use Rattle.image_model.specs.declared.header.FileHeader.{FileHeader}
use Rattle.image_model.specs.declared.header.ProgramHeader.{ProgramHeader}
use Rattle.image_model.specs.Fields.{file_header, program_headers}

-- 1: fewer bytes than a file header has
unfoldable pub is_short : List ℕ → Bool
is_short file = nat_lt (length file) 52

-- 2: the first four bytes are not 7F and the letters ELF
unfoldable pub lacks_magic : List ℕ → Bool
lacks_magic file = not (starts_with nat_eq file (0x7F ∷ 0x45 ∷ 0x4C ∷ 0x46 ∷ []))

-- 3: the next three are not 1 (32 bits, little-endian, this version), or the nine after them are not 0
unfoldable pub lacks_ident : List ℕ → Bool
lacks_ident file = not (starts_with nat_eq (drop 4 file) (1 ∷ 1 ∷ 1 ∷ 0 ∷ 0 ∷ 0 ∷ 0 ∷ 0 ∷ 0 ∷ 0 ∷ 0 ∷ 0 ∷ []))

-- 4: no executable file (2) for RISC-V (243) of version 1
unfoldable pub has_bad_kind : FileHeader → Bool
has_bad_kind h = not (h.e_type == 2 && h.e_machine == 243 && h.e_version == 1)

-- the program headers, 1 to 4 of 32 bytes, do not follow the file header of 52 bytes
unfoldable pub has_bad_table : FileHeader → Bool
has_bad_table h = not (h.e_phoff == 52 && h.e_ehsize == 52 && h.e_phentsize == 32 && nat_le 1 h.e_phnum && nat_le h.e_phnum 4)

-- there are flags or sections
unfoldable pub has_sections : FileHeader → Bool
has_sections h = not (h.e_shoff == 0 && h.e_flags == 0 && h.e_shentsize == 0 && h.e_shnum == 0 && h.e_shstrndx == 0)

-- 5: either of the two
abbrev pub has_bad_layout : FileHeader → Bool
has_bad_layout h = has_bad_table h || has_sections h

-- 6: fewer bytes than the file header and the program headers have
unfoldable pub has_short_table : List ℕ → Bool
has_short_table file = nat_lt (length file) (52 + 32 * (file_header file).e_phnum)

-- the flags X 1, W 2 and R 4
unfoldable pub may_execute : ProgramHeader → Bool
may_execute h = not (bit_and h.p_flags 1 == 0)

unfoldable pub may_write : ProgramHeader → Bool
may_write h = not (bit_and h.p_flags 2 == 0)

unfoldable pub may_read : ProgramHeader → Bool
may_read h = not (bit_and h.p_flags 4 == 0)

-- no segment that is loaded (1), or its alignment is no page
unfoldable pub is_not_loaded : ProgramHeader → Bool
is_not_loaded h = not (h.p_type == 1 && h.p_align == 4096)

-- flags 0, or others than X, W and R
unfoldable pub has_bad_flags : ProgramHeader → Bool
has_bad_flags h = h.p_flags == 0 || nat_lt 7 h.p_flags

-- no memory, or offset and address at different places of their pages
unfoldable pub is_misplaced : ProgramHeader → Bool
is_misplaced h = h.p_memsz == 0 || not (h.p_offset % 4096 == h.p_vaddr % 4096)

-- 7: any of the three
abbrev pub is_bad_segment : ProgramHeader → Bool
is_bad_segment h = is_not_loaded h || has_bad_flags h || is_misplaced h

-- 8: more bytes in the file than in memory
unfoldable pub has_bad_size : ProgramHeader → Bool
has_bad_size h = nat_lt h.p_memsz h.p_filesz

-- 9: bytes past the end of a file of this length
unfoldable pub is_past_end : ℕ → ProgramHeader → Bool
is_past_end end h = nat_lt end (h.p_offset + h.p_filesz)

-- the numbers of a segment's first and last page; a page has 4,096 bytes
abbrev pub first_page_of : ProgramHeader → ℕ
first_page_of h = h.p_vaddr / 4096

abbrev pub last_page_of : ProgramHeader → ℕ
last_page_of h = (h.p_vaddr + h.p_memsz - 1) / 4096

unfoldable pub page_count_of : ProgramHeader → ℕ
page_count_of h = last_page_of h + 1 - first_page_of h

-- 10: below the lowest or past the highest address, or over 60 pages in all
unfoldable pub is_out_of_range : ProgramHeader → Bool
is_out_of_range h = nat_lt h.p_vaddr 0x00010000 || nat_lt 0x7FFF0000 (h.p_vaddr + h.p_memsz)

unfoldable pub has_bad_range : List ProgramHeader → Bool
has_bad_range hs = list_any is_out_of_range hs || nat_lt 60 (sum_by page_count_of hs)

-- the first page of the next segment, if there is one, is not above the last page of this one
unfoldable pub meets_next : ProgramHeader → List ProgramHeader → Bool
meets_next h [] = false
meets_next h (next ∷ hs) = nat_le (first_page_of next) (last_page_of h)

-- 11: a segment's first page is not above the last page of the one before
unfoldable pub has_overlap : List ProgramHeader → Bool
has_overlap [] = false
has_overlap (h ∷ hs) = meets_next h hs || has_overlap hs

-- an address lies in a segment with X
unfoldable pub is_code_at : ℕ → ProgramHeader → Bool
is_code_at at h = may_execute h && nat_le h.p_vaddr at && nat_lt at (h.p_vaddr + h.p_memsz)

-- 12: no multiple of 4, or in no segment with X
unfoldable pub is_bad_entry : ℕ → List ProgramHeader → Bool
is_bad_entry entry hs = not (entry % 4 == 0) || not (list_any (is_code_at entry) hs)

-- a check, and the fault where it fails
pub record Check : Type 0 where
  pub fails : Bool
  pub fault : ElfFault

infix 5 ◌⇒◌
-- the check with this fault
abbrev pub ◌⇒◌ : Bool → ElfFault → Check
fails ⇒ fault = record { fails = fails; fault = fault }

-- the fault of the first check that fails
abbrev pub first_of : List Check → Option ElfFault
first_of [] = None
first_of (c ∷ cs) = if c.fails then Some c.fault else first_of cs

-- the checks of the file header, and of the place that the program headers take
abbrev pub header_checks : List ℕ → List Check
header_checks file =
    (is_short file ⇒ Short)
    ∷ (lacks_magic file ⇒ BadMagic)
    ∷ (lacks_ident file ⇒ BadIdent)
    ∷ (has_bad_kind (file_header file) ⇒ BadKind)
    ∷ (has_bad_layout (file_header file) ⇒ BadHeader)
    ∷ (has_short_table file ⇒ ShortTable)
    ∷ []

-- the checks of program headers, in a file of this length with this entry
abbrev pub segment_checks : ℕ → ℕ → List ProgramHeader → List Check
segment_checks end entry hs =
    (list_any is_bad_segment hs ⇒ BadSegment)
    ∷ (list_any has_bad_size hs ⇒ BadSize)
    ∷ (list_any (is_past_end end) hs ⇒ PastEnd)
    ∷ (has_bad_range hs ⇒ BadRange)
    ∷ (has_overlap hs ⇒ Overlap)
    ∷ (is_bad_entry entry hs ⇒ BadEntry)
    ∷ []

-- the first fault of a file, if it has one
unfoldable pub first_fault : List ℕ → Option ElfFault
first_fault file = first_of (header_checks file ++ segment_checks (length file) (file_header file).e_entry (program_headers file))
