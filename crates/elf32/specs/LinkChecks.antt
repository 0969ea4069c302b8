-- The checks of a linked file, in their order. Read `first_fault`, at the end, first.
use Rattle.std.specs.Prelude.{ℕ, ◌+◌, ◌*◌, ◌%◌, ◌==◌, nat_eq, nat_lt, bit_and, Bool, not, ◌&&◌, ◌||◌, if◌then◌else◌, List, [], ◌∷◌, length, drop, get_or, sum_by, Option, Some, None}
use Rattle.std.specs.List.{list_any, starts_with, filter, find}
use Rattle.image_model.specs.declared.header.FileHeader.{FileHeader}
use Rattle.image_model.specs.declared.header.ProgramHeader.{ProgramHeader}
use Rattle.image_model.specs.Fields.{file_header, headers_in}
use Rattle.image_model.specs.Checks.{lacks_magic, has_bad_flags, has_bad_size, is_past_end, page_count_of, is_out_of_range, has_overlap, is_code_at}
use Rattle.elf32.specs.declared.link_fault.LinkFault.{LinkFault}
use Rattle.elf32.specs.declared.link_fault.LinkFault.TheVariants.{NotElf, TooLong, Short, Bits64, BigEndian, Unidentified, Machine, Relocatable, SharedObject, NotExecutable, Compressed, FloatRegisters, FewRegisters, UnknownFlags, HeaderSize, ShortTable, Dynamic, ExecutableStack, UnknownKind, NoSegment, ManySegments, BadRights, BadSize, PastEnd, OutOfRange, SharedPage, ManyPages, OddEntry, EntryOutside}

-- the first of two faults, if there is one
abbrev pub or_else : Option LinkFault → Option LinkFault → Option LinkFault
or_else None later = later
or_else (Some fault) later = Some fault

-- the three bytes after the first four are not 1: 32 bits, little-endian, this version
unfoldable pub lacks_ident : List ℕ → Bool
lacks_ident file = not (starts_with nat_eq (drop 4 file) (1 ∷ 1 ∷ 1 ∷ []))

-- of the identification and the length: at most 64 MiB; byte 4 is the class, and byte 5 the byte order
unfoldable pub ident_fault : List ℕ → Option LinkFault
ident_fault file =
    if lacks_magic file then Some NotElf
    else if nat_lt 67108864 (length file) then Some TooLong
    else if nat_lt (length file) 52 then Some Short
    else if get_or file 4 0 == 2 then Some Bits64
    else if get_or file 5 0 == 2 then Some BigEndian
    else if lacks_ident file then Some Unidentified
    else None

-- of the kind: RISC-V is 243; an object file 1, an executable file 2, a shared object 3
unfoldable pub kind_fault : FileHeader → Option LinkFault
kind_fault h =
    if not (h.e_machine == 243) then Some (Machine h.e_machine)
    else if h.e_type == 1 then Some Relocatable
    else if h.e_type == 3 then Some SharedObject
    else if not (h.e_type == 2) || not (h.e_version == 1) then Some NotExecutable
    else None

-- Of the flags: 1 compressed code, 6 numbers in floating-point registers, 8 sixteen registers. 16, which asks for total store
-- order, is met where one hart uses a memory.
unfoldable pub flags_fault : ℕ → Option LinkFault
flags_fault flags =
    if not (bit_and flags 1 == 0) then Some Compressed
    else if not (bit_and flags 6 == 0) then Some FloatRegisters
    else if not (bit_and flags 8 == 0) then Some FewRegisters
    else if not (flags == 0) && not (flags == 16) then Some (UnknownFlags flags)
    else None

-- program headers past the end of a file of this length
unfoldable pub is_past_file : ℕ → FileHeader → Bool
is_past_file end h = nat_lt end (h.e_phoff + 32 * h.e_phnum)

-- of the place of the program headers
unfoldable pub table_fault : ℕ → FileHeader → Option LinkFault
table_fault end h =
    if not (h.e_phnum == 0) && not (h.e_phentsize == 32) then Some HeaderSize
    else if is_past_file end h then Some ShortTable
    else None

unfoldable pub fields_fault : ℕ → FileHeader → Option LinkFault
fields_fault end h = or_else (kind_fault h) (or_else (flags_fault h.e_flags) (table_fault end h))

unfoldable pub header_fault : List ℕ → Option LinkFault
header_fault file = or_else (ident_fault file) (fields_fault (length file) (file_header file))

-- the program headers of a file: as many as its header says, from the place that it says
unfoldable pub table_of : List ℕ → List ProgramHeader
table_of file = headers_in (file_header file).e_phnum (drop (file_header file).e_phoff file)

-- a dynamic section (2) or an interpreter (3)
unfoldable pub is_dynamic : ProgramHeader → Bool
is_dynamic h = h.p_type == 2 || h.p_type == 3

-- a stack (PT_GNU_STACK) that may be executed
unfoldable pub wants_code_stack : ProgramHeader → Bool
wants_code_stack h = h.p_type == 0x6474E551 && not (bit_and h.p_flags 1 == 0)

-- Not one of these: PT_NULL, PT_LOAD, PT_NOTE, PT_PHDR, PT_TLS; PT_GNU_EH_FRAME, PT_GNU_STACK, PT_GNU_RELRO, PT_GNU_PROPERTY;
-- PT_RISCV_ATTRIBUTES. All but PT_LOAD say nothing of what is loaded.
unfoldable pub is_unknown : ProgramHeader → Bool
is_unknown h = not (h.p_type == 0 || h.p_type == 1 || h.p_type == 4 || h.p_type == 6 || h.p_type == 7
    || h.p_type == 0x6474E550 || h.p_type == 0x6474E551 || h.p_type == 0x6474E552 || h.p_type == 0x6474E553 || h.p_type == 0x70000003)

abbrev pub unknown_fault : Option ProgramHeader → Option LinkFault
unknown_fault None = None
unknown_fault (Some h) = Some (UnknownKind h.p_type)

-- of the kinds of program headers
unfoldable pub kinds_fault : List ProgramHeader → Option LinkFault
kinds_fault hs =
    if list_any is_dynamic hs then Some Dynamic
    else if list_any wants_code_stack hs then Some ExecutableStack
    else unknown_fault (find is_unknown hs)

-- a segment that is loaded (1), and takes memory
unfoldable pub takes_memory : ProgramHeader → Bool
takes_memory h = h.p_type == 1 && not (h.p_memsz == 0)

-- of how many segments take memory
unfoldable pub count_fault : List ProgramHeader → Option LinkFault
count_fault hs =
    if length hs == 0 then Some NoSegment
    else if nat_lt 4 (length hs) then Some (ManySegments (length hs))
    else None

-- of each of them, in a file of this length
unfoldable pub each_fault : ℕ → List ProgramHeader → Option LinkFault
each_fault end hs =
    if list_any has_bad_flags hs then Some BadRights
    else if list_any has_bad_size hs then Some BadSize
    else if list_any (is_past_end end) hs then Some PastEnd
    else if list_any is_out_of_range hs then Some OutOfRange
    else None

-- of all together, with this entry
unfoldable pub whole_fault : ℕ → List ProgramHeader → Option LinkFault
whole_fault entry hs =
    if has_overlap hs then Some SharedPage
    else if nat_lt 60 (sum_by page_count_of hs) then Some (ManyPages (sum_by page_count_of hs))
    else if not (entry % 4 == 0) then Some OddEntry
    else if not (list_any (is_code_at entry) hs) then Some EntryOutside
    else None

-- of the segments that take memory, in a file of this length with this entry
unfoldable pub segments_fault : ℕ → ℕ → List ProgramHeader → Option LinkFault
segments_fault end entry hs = or_else (count_fault hs) (or_else (each_fault end hs) (whole_fault entry hs))

-- the segments of a file that take memory
abbrev pub loaded_of : List ℕ → List ProgramHeader
loaded_of file = filter takes_memory (table_of file)

-- the first fault of a file, if it has one
unfoldable pub first_fault : List ℕ → Option LinkFault
first_fault file =
    or_else (header_fault file) (or_else (kinds_fault (table_of file)) (segments_fault (length file) (file_header file).e_entry (loaded_of file)))
