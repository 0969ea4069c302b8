-- The file that is written for a program.
use Rattle.std.specs.Prelude.{◌≡◌, ℕ, ◌+◌, ◌-◌, ◌*◌, ◌/◌, ◌%◌, ◌^◌, ◌<◌, if◌then◌else◌, List, [], ◌∷◌, ◌++◌, length, replicate, None}
use Rattle.memory_model.specs.Access.{low_bytes}
use Rattle.memory_model.specs.declared.access.Rights.{Rights}
use Rattle.machine_model.specs.declared.image.Segment.{Segment}
use Rattle.machine_model.specs.Images.{Program, IsProfile, bytes_of_words}
use Rattle.image_model.specs.Checks.{first_fault}
use Rattle.image_model.specs.Names.{program_in}

-- the bytes of half words, each little-endian
abbrev pub bytes_of_halves : List ℕ → List ℕ
bytes_of_halves [] = []
bytes_of_halves (half ∷ halves) = low_bytes 2 half ++ bytes_of_halves halves

-- 7F and the letters ELF; 32 bits, little-endian, version 1; nine zeros
abbrev pub identification : List ℕ
identification = 0x7F ∷ 0x45 ∷ 0x4C ∷ 0x46 ∷ 1 ∷ 1 ∷ 1 ∷ 0 ∷ 0 ∷ 0 ∷ 0 ∷ 0 ∷ 0 ∷ 0 ∷ 0 ∷ 0 ∷ []

-- The file header of a program with this entry and so many segments: type 2, machine 243; version 1, entry, the program
-- headers' offset 52, no sections, no flags; the sizes of the headers, the number of program headers, no sections.
unfoldable pub file_header_of : ℕ → ℕ → List ℕ
file_header_of entry count =
    identification ++ bytes_of_halves (2 ∷ 243 ∷ []) ++ bytes_of_words (1 ∷ entry ∷ 52 ∷ 0 ∷ 0 ∷ [])
    ++ bytes_of_halves (52 ∷ 32 ∷ count ∷ 0 ∷ 0 ∷ 0 ∷ [])

-- the flags X 1, W 2 and R 4
abbrev pub flags_of : Rights → ℕ
flags_of r = (if r.read then 4 else 0) + (if r.write then 2 else 0) + (if r.execute then 1 else 0)

-- the program header of a segment whose bytes lie at this offset: type 1, offset, address, the same as physical address,
-- size in the file and in memory, flags, alignment 4096
unfoldable pub program_header_of : ℕ → Segment → List ℕ
program_header_of offset s = bytes_of_words (1 ∷ offset ∷ s.vaddr ∷ s.vaddr ∷ length s.bytes ∷ s.memsz ∷ flags_of s.rights ∷ 4096 ∷ [])

-- a segment's offset after bytes that end here: the least multiple of 4096 that is not below, and the address modulo 4096
unfoldable pub offset_after : ℕ → Segment → ℕ
offset_after end s = (end + 4095) / 4096 * 4096 + s.vaddr % 4096

-- where the bytes of a segment end, after bytes that end here
abbrev pub end_after : ℕ → Segment → ℕ
end_after end s = offset_after end s + length s.bytes

-- the program headers of segments after bytes that end here
abbrev pub table_after : ℕ → List Segment → List ℕ
table_after end [] = []
table_after end (s ∷ ss) = program_header_of (offset_after end s) s ++ table_after (end_after end s) ss

-- the bytes of segments after bytes that end here, each after zeros up to its offset
abbrev pub contents_after : ℕ → List Segment → List ℕ
contents_after end [] = []
contents_after end (s ∷ ss) = replicate (offset_after end s - end) 0 ++ (s.bytes ++ contents_after (end_after end s) ss)

-- the bytes of segments after bytes that end here lie within a mebibyte
abbrev pub AreNear : ℕ → List Segment → Type 0
AreNear end [] = end < 2 ^ 20
AreNear end (s ∷ ss) = (end < 2 ^ 20) × (end_after end s < 2 ^ 20) × AreNear (end_after end s) ss

-- a program's headers
abbrev pub headers_of : Program → List ℕ
headers_of p = file_header_of p.entry (length p.segments) ++ table_after 4096 p.segments

-- a program's file: its headers, zeros up to the second page, and the bytes of its segments from there on
unfoldable pub file_of : Program → List ℕ
file_of p = headers_of p ++ (replicate (4096 - length (headers_of p)) 0 ++ contents_after 4096 p.segments)

-- the file of a program that may be loaded has no fault, and names that program
abbrev pub RoundTrips : Type 0
RoundTrips = (p : Program) → IsProfile p → (first_fault (file_of p) ≡ None) × (program_in (file_of p) ≡ p)
