-- A file's first fault, in two steps.
use Rattle.std.proofs.Common.{◌≡◌, ℕ, suc, zero, ◌+◌, ◌-◌, ◌<◌, ◌≤◌, false, List, length, get_or, map, take, drop, Option, Some, None, refl, sym, ap, subst, ◌∙◌, arith, inl, inr}
use Rattle.std.specs.Prelude.{◌==◌, ◌&&◌, nat_le}
use Rattle.std.specs.List.{list_any}
use Rattle.std.proofs.lemmas.Bool.{or_parts, and_parts, ltb-false, leb-true, not-false}
use Rattle.std.proofs.lemmas.List.{take_rest}
use Rattle.image_model.specs.declared.header.FileHeader.{FileHeader}
use Rattle.image_model.specs.declared.header.ProgramHeader.{ProgramHeader}
use Rattle.image_model.specs.declared.fault.ElfFault.{ElfFault}
use Rattle.image_model.specs.declared.fault.ElfFault.TheVariants.{OutOfMemory}
use Rattle.image_model.specs.Fields.{file_header, headers_in, program_headers}
use Rattle.image_model.specs.Checks.{has_bad_table, has_sections, has_bad_layout, is_past_end, first_of, header_checks, segment_checks, first_fault}
use Rattle.machine_model.specs.declared.image.Segment.{Segment}
use Rattle.machine_model.specs.Images.{Program, IsProfile}
use Rattle.image_model.specs.Names.{segment_in, program_in, Names, IsRefused}
use Rattle.elf32.proofs.Profile.{profile}
use Rattle.elf32.proofs.Passing.{none_at, first_of-some, first_of-none}

-- a layout that is not bad has 1 to 4 program headers
pub layout-count : (h : FileHeader) → has_bad_layout h ≡ false → (1 ≤ h.e_phnum) × (h.e_phnum ≤ 4)
unfolding has_bad_table
layout-count h e =
    let all = not-false _ (or_parts (has_bad_table h) (has_sections h) e).0 in
    let last = and_parts (h.e_phoff == 52 && h.e_ehsize == 52 && h.e_phentsize == 32 && nat_le 1 h.e_phnum) (nat_le h.e_phnum 4) all in
    let first = and_parts (h.e_phoff == 52 && h.e_ehsize == 52 && h.e_phentsize == 32) (nat_le 1 h.e_phnum) last.0 in
    (leb-true 1 h.e_phnum first.1, leb-true h.e_phnum 4 last.1)

-- the checks of a file's program headers
abbrev pub segment_checks_of : List ℕ → Option ElfFault
segment_checks_of file = first_of (segment_checks (length file) (file_header file).e_entry (program_headers file))

pub header_refused : (file : List ℕ) (why : ElfFault) → Some why ≡ first_of (header_checks file) → IsRefused file why
unfolding first_fault
header_refused file why e = inl (first_of-some (header_checks file) (segment_checks (length file) (file_header file).e_entry (program_headers file)) why (sym e))

pub segments_refused : (file : List ℕ) (why : ElfFault) → None ≡ first_of (header_checks file) → Some why ≡ segment_checks_of file → IsRefused file why
unfolding first_fault
segments_refused file why e f = inl (first_of-none (header_checks file) (segment_checks (length file) (file_header file).e_entry (program_headers file)) (sym e) ∙ sym f)

pub without_fault : (file : List ℕ) → None ≡ first_of (header_checks file) → None ≡ segment_checks_of file → first_fault file ≡ None
unfolding first_fault
without_fault file e f = first_of-none (header_checks file) (segment_checks (length file) (file_header file).e_entry (program_headers file)) (sym e) ∙ sym f

-- what was read of a file: its header, how many program headers there are, and a table that begins with them
pub record IsRead (file : List ℕ) (h : FileHeader) (count : ℕ) (table : List ProgramHeader) : Type 0 where
  pub header : h ≡ file_header file
  pub counted : count ≡ h.e_phnum
  pub headers : take count table ≡ headers_in count (take (length file - 52) (drop 52 file))

table_is : (file : List ℕ) (h : FileHeader) (count : ℕ) (table : List ProgramHeader) → IsRead file h count table → take count table ≡ program_headers file
unfolding program_headers
table_is file h count table read =
    read.headers ∙ ap (headers_in count) (take_rest file 52)
    ∙ ap (λ (k : ℕ). headers_in k (drop 52 file)) (read.counted ∙ ap (λ (x : FileHeader). x.e_phnum) read.header)

pub length-headers_in : (n : ℕ) (bytes : List ℕ) → length (headers_in n bytes) ≡ n
length-headers_in zero bytes = refl
length-headers_in (suc n) bytes = ap suc (length-headers_in n (drop 32 bytes))

pub within : (end : ℕ) (hs : List ProgramHeader) (k : ℕ) (d : ProgramHeader) → list_any (is_past_end end) hs ≡ false → k < length hs → (get_or hs k d).p_offset + (get_or hs k d).p_filesz ≤ end
unfolding is_past_end
within end hs k d none small = ltb-false end ((get_or hs k d).p_offset + (get_or hs k d).p_filesz) (none_at (is_past_end end) hs k d none small)

-- the refusal of a file that has no fault
pub memory_refused : (file : List ℕ) (why : ElfFault) → first_fault file ≡ None → why ≡ OutOfMemory → IsRefused file why
memory_refused file why sound is = inr (sound, is)

-- the checks of what was read are those of the file
pub same_checks : (file : List ℕ) (h : FileHeader) (count : ℕ) (table : List ProgramHeader) (r : Option ElfFault) → IsRead file h count table
    → r ≡ first_of (segment_checks (length file) h.e_entry (take count table)) → r ≡ segment_checks_of file
same_checks file h count table r read e =
    e ∙ ap (λ (x : FileHeader). first_of (segment_checks (length file) x.e_entry (take count table))) read.header
    ∙ ap (λ (hs : List ProgramHeader). first_of (segment_checks (length file) (file_header file).e_entry hs)) (table_is file h count table read)

count_of : (file : List ℕ) (h : FileHeader) (count : ℕ) (table : List ProgramHeader) → IsRead file h count table → length (take count table) ≡ (file_header file).e_phnum
count_of file h count table read =
    ap length read.headers ∙ length-headers_in count (take (length file - 52) (drop 52 file)) ∙ read.counted ∙ ap (λ (x : FileHeader). x.e_phnum) read.header

-- the program of what was read keeps the profile
pub is_profile : (file : List ℕ) (h : FileHeader) (count : ℕ) (table : List ProgramHeader) (segments : List Segment) → IsRead file h count table
    → 1 ≤ (file_header file).e_phnum → (file_header file).e_phnum ≤ 4 → None ≡ first_of (segment_checks (length file) h.e_entry (take count table))
    → segments ≡ map (segment_in file) (take count table) → IsProfile (record { entry = h.e_entry; segments = segments })
is_profile file h count table segments read some few sound are =
    let size = count_of file h count table read in
    subst (λ (ss : List Segment). IsProfile (record { entry = h.e_entry; segments = ss })) (sym are)
    (profile file (length file) h.e_entry (take count table) (omega arith) (omega arith) (sym sound))

-- the program of what was read is the one that the file names
pub is_named : (file : List ℕ) (h : FileHeader) (count : ℕ) (table : List ProgramHeader) (segments : List Segment) (program : Program) → IsRead file h count table
    → None ≡ first_of (header_checks file) → None ≡ first_of (segment_checks (length file) h.e_entry (take count table))
    → segments ≡ map (segment_in file) (take count table) → program ≡ record { entry = h.e_entry; segments = segments } → Names file program
unfolding program_in
is_named file h count table segments program read begun sound are is = record {
  sound = without_fault file begun (same_checks file h count table None read sound);
  named = is
      ∙ ap (λ (ss : List Segment). record { entry = h.e_entry; segments = ss }) (are ∙ ap (map (segment_in file)) (table_is file h count table read))
      ∙ ap (λ (x : FileHeader). record { entry = x.e_entry; segments = map (segment_in file) (program_headers file) }) read.header;
}
