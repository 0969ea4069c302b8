-- A file has no fault exactly where it may be loaded.
use Rattle.std.proofs.Common.{◌≡◌, ◌≢◌, ℕ, suc, ◌+◌, ◌*◌, ◌%◌, ◌<◌, ◌≤◌, Bool, true, false, List, [], ◌∷◌, ◌++◌, length, get_or, take, drop, None, refl, sym, ap, ◌∙◌, arith, take-append-drop}
use Rattle.std.specs.Prelude.{◌==◌, ◌||◌, ◌&&◌, not, nat_eq, nat_lt, nat_le, bit_and, All, Any, AllPairs, sum_by}
use Rattle.std.specs.List.{list_any, starts_with, AllByRecursion}
use Rattle.std.specs.Bool.{Decides}
use Rattle.std.proofs.lemmas.Bool.{or_parts, or_from, not-false, not_from_true, not_from_false, not-true, ltb-false, le-ltb, ltb-true, lt-ltb, leb-true, le-leb, lt-leb, eqb-true, eq-eqb, eqb-false, ne_eqb, and_parts, and_from}
use Rattle.std.proofs.lemmas.Bool.Decides.{Decides-eqb, nat_tests}
use Rattle.std.proofs.lemmas.Slice.Eq.{starts_is}
use Rattle.std.proofs.lemmas.List.Folds.{Any-from_list_any, list_any-from_Any, list_any_none}
use Rattle.std.proofs.lemmas.List.Elements.{All-from_recursion, recursion_from_All}
use Rattle.std.proofs.lemmas.List.Kept.{AllPairs-cons}
use Rattle.image_model.specs.declared.fault.ElfFault.TheVariants.{Short, BadMagic, BadIdent, BadKind, BadHeader, ShortTable, BadSegment, BadSize, PastEnd, BadRange, Overlap, BadEntry}
use Rattle.image_model.specs.declared.header.FileHeader.{FileHeader}
use Rattle.image_model.specs.declared.header.ProgramHeader.{ProgramHeader}
use Rattle.image_model.specs.Fields.{file_header, program_headers}
use Rattle.elf32.specs.Files.{identification}
use Rattle.image_model.specs.Checks.{is_short, lacks_magic, lacks_ident, has_bad_kind, has_bad_table, has_sections, has_bad_layout, has_short_table, may_execute, is_not_loaded, has_bad_flags, is_misplaced, is_bad_segment, has_bad_size, is_past_end, first_page_of, last_page_of, page_count_of, is_out_of_range, has_bad_range, meets_next, has_overlap, is_code_at, is_bad_entry, Check, first_of, header_checks, segment_checks, first_fault}
use Rattle.elf32.specs.Sound.{IsExecutable, IsLoadableFrom, HasCodeAt, IsSound, SoundFiles}
use Rattle.elf32.proofs.Passing.{none_at, none_step, first_of-none, six_pass, none_of_six}
use Rattle.elf32.proofs.Profile.{BeginsAbove, begins_above}

-- ---- the checks' order

prefix_none : (xs ys : List Check) → first_of (xs ++ ys) ≡ None → first_of xs ≡ None
prefix_none [] ys e = refl
prefix_none (x ∷ xs) ys e = none_step x.fails x.fault (first_of (xs ++ ys)) (first_of xs) None (prefix_none xs ys) e

-- ---- identification

decides_start : (file start : List ℕ) → Decides (starts_with nat_eq file start) (file ≡ start ++ drop (length start) file)
decides_start file start = let is = starts_is Decides-eqb file start (starts_with nat_eq file start) refl in (is.0, is.1 (drop (length start) file))

identification_prefix : (rest : List ℕ) → take 16 (identification ++ rest) ≡ identification
identification_prefix rest = refl

identified : (file : List ℕ) → lacks_magic file ≡ false → lacks_ident file ≡ false → take 16 file ≡ identification
unfolding lacks_magic lacks_ident
identified file magic ident =
    let first = (decides_start file (0x7F ∷ 0x45 ∷ 0x4C ∷ 0x46 ∷ [])).0 (not-false _ magic) in
    let second = (decides_start (drop 4 file) (1 ∷ 1 ∷ 1 ∷ 0 ∷ 0 ∷ 0 ∷ 0 ∷ 0 ∷ 0 ∷ 0 ∷ 0 ∷ 0 ∷ [])).0 (not-false _ ident) in
    let all : file ≡ identification ++ drop 12 (drop 4 file) = first ∙ ap (λ (xs : List ℕ). (0x7F ∷ 0x45 ∷ 0x4C ∷ 0x46 ∷ []) ++ xs) second in
    ap (take 16) all ∙ identification_prefix (drop 12 (drop 4 file))

begins : (file : List ℕ) → take 16 file ≡ identification → file ≡ identification ++ drop 16 file
begins file id = sym (take-append-drop 16 file) ∙ ap (λ (xs : List ℕ). xs ++ drop 16 file) id

magic_in : (rest : List ℕ) → lacks_magic (identification ++ rest) ≡ false
unfolding lacks_magic
magic_in rest = refl

ident_in : (rest : List ℕ) → lacks_ident (identification ++ rest) ≡ false
unfolding lacks_ident
ident_in rest = refl

has_magic : (file : List ℕ) → take 16 file ≡ identification → lacks_magic file ≡ false
has_magic file id = ap lacks_magic (begins file id) ∙ magic_in (drop 16 file)

has_ident : (file : List ℕ) → take 16 file ≡ identification → lacks_ident file ≡ false
has_ident file id = ap lacks_ident (begins file id) ∙ ident_in (drop 16 file)

-- ---- the file header

three_hold : (a b c : Bool) → not (a && b && c) ≡ false → (a ≡ true) × (b ≡ true) × (c ≡ true)
three_hold a b c e =
    let last = and_parts (a && b) c (not-false (a && b && c) e) in
    let first = and_parts a b last.0 in
    (first.0, first.1, last.1)

five_hold : (a b c d f : Bool) → not (a && b && c && d && f) ≡ false → (a ≡ true) × (b ≡ true) × (c ≡ true) × (d ≡ true) × (f ≡ true)
five_hold a b c d f e =
    let last = and_parts (a && b && c && d) f (not-false (a && b && c && d && f) e) in
    let next = and_parts (a && b && c) d last.0 in
    let third = and_parts (a && b) c next.0 in
    let first = and_parts a b third.0 in
    (first.0, first.1, third.1, next.1, last.1)

executable : (h : FileHeader) → has_bad_kind h ≡ false → has_bad_layout h ≡ false → IsExecutable h
unfolding has_bad_kind has_bad_table has_sections
executable h kind layout =
    let kinds = three_hold (h.e_type == 2) (h.e_machine == 243) (h.e_version == 1) kind in
    let parts = or_parts (has_bad_table h) (has_sections h) layout in
    let table = five_hold (h.e_phoff == 52) (h.e_ehsize == 52) (h.e_phentsize == 32) (nat_le 1 h.e_phnum) (nat_le h.e_phnum 4) parts.0 in
    let none = five_hold (h.e_shoff == 0) (h.e_flags == 0) (h.e_shentsize == 0) (h.e_shnum == 0) (h.e_shstrndx == 0) parts.1 in
    record {
      executable = eqb-true h.e_type 2 kinds.0;
      riscv = eqb-true h.e_machine 243 kinds.1;
      version = eqb-true h.e_version 1 kinds.2;
      header_size = eqb-true h.e_ehsize 52 table.1;
      table_offset = eqb-true h.e_phoff 52 table.0;
      table_entry_size = eqb-true h.e_phentsize 32 table.2;
      some = leb-true 1 h.e_phnum table.3;
      few = leb-true h.e_phnum 4 table.4;
      no_flags = eqb-true h.e_flags 0 none.1;
      no_section_offset = eqb-true h.e_shoff 0 none.0;
      no_section_size = eqb-true h.e_shentsize 0 none.2;
      no_sections = eqb-true h.e_shnum 0 none.3;
      no_section_names = eqb-true h.e_shstrndx 0 none.4;
    }

good_kind : (h : FileHeader) → IsExecutable h → has_bad_kind h ≡ false
unfolding has_bad_kind
good_kind h x = rw (x.executable, x.riscv, x.version) refl

good_layout : (h : FileHeader) → IsExecutable h → has_bad_layout h ≡ false
unfolding has_bad_table has_sections
good_layout h x = grind (arith, nat_tests)

-- ---- program headers

loadable : (end : ℕ) (h : ProgramHeader) → is_bad_segment h ≡ false → has_bad_size h ≡ false → is_past_end end h ≡ false → is_out_of_range h ≡ false → IsLoadableFrom end h
unfolding is_not_loaded has_bad_flags is_misplaced has_bad_size is_past_end is_out_of_range
loadable end h good sized ended ranged =
    let parts = or_parts (is_not_loaded h || has_bad_flags h) (is_misplaced h) good in
    let kinds = or_parts (is_not_loaded h) (has_bad_flags h) parts.0 in
    let typed = and_parts (h.p_type == 1) (h.p_align == 4096) (not-false (h.p_type == 1 && h.p_align == 4096) kinds.0) in
    let few = or_parts (h.p_flags == 0) (nat_lt 7 h.p_flags) kinds.1 in
    let placed = or_parts (h.p_memsz == 0) (not (h.p_offset % 4096 == h.p_vaddr % 4096)) parts.1 in
    let range = or_parts (nat_lt h.p_vaddr 0x00010000) (nat_lt 0x7FFF0000 (h.p_vaddr + h.p_memsz)) ranged in
    record {
      loaded = eqb-true h.p_type 1 typed.0;
      page_aligned = eqb-true h.p_align 4096 typed.1;
      some_right = eqb-false h.p_flags 0 few.0;
      known_rights = ltb-false 7 h.p_flags few.1;
      present = eqb-false h.p_memsz 0 placed.0;
      placed = eqb-true (h.p_offset % 4096) (h.p_vaddr % 4096) (not-false (h.p_offset % 4096 == h.p_vaddr % 4096) placed.1);
      within_memory = ltb-false h.p_memsz h.p_filesz sized;
      within_file = ltb-false end (h.p_offset + h.p_filesz) ended;
      above = ltb-false h.p_vaddr 0x00010000 range.0;
      below = ltb-false 0x7FFF0000 (h.p_vaddr + h.p_memsz) range.1;
    }

good_segment : (end : ℕ) (h : ProgramHeader) → IsLoadableFrom end h → is_bad_segment h ≡ false
unfolding is_not_loaded has_bad_flags is_misplaced
good_segment end h load =
    or_from (is_not_loaded h || has_bad_flags h) (is_misplaced h)
    (or_from (is_not_loaded h) (has_bad_flags h)
    (not_from_true (h.p_type == 1 && h.p_align == 4096) (and_from (h.p_type == 1) (h.p_align == 4096) (eq-eqb h.p_type 1 load.loaded) (eq-eqb h.p_align 4096 load.page_aligned)))
    (or_from (h.p_flags == 0) (nat_lt 7 h.p_flags) (ne_eqb h.p_flags 0 load.some_right) (le-ltb 7 h.p_flags load.known_rights)))
    (or_from (h.p_memsz == 0) (not (h.p_offset % 4096 == h.p_vaddr % 4096)) (ne_eqb h.p_memsz 0 load.present)
    (not_from_true (h.p_offset % 4096 == h.p_vaddr % 4096) (eq-eqb (h.p_offset % 4096) (h.p_vaddr % 4096) load.placed)))

good_size : (end : ℕ) (h : ProgramHeader) → IsLoadableFrom end h → has_bad_size h ≡ false
unfolding has_bad_size
good_size end h load = le-ltb h.p_memsz h.p_filesz load.within_memory

good_end : (end : ℕ) (h : ProgramHeader) → IsLoadableFrom end h → is_past_end end h ≡ false
unfolding is_past_end
good_end end h load = le-ltb end (h.p_offset + h.p_filesz) load.within_file

good_range : (end : ℕ) (h : ProgramHeader) → IsLoadableFrom end h → is_out_of_range h ≡ false
unfolding is_out_of_range
good_range end h load =
    or_from (nat_lt h.p_vaddr 0x00010000) (nat_lt 0x7FFF0000 (h.p_vaddr + h.p_memsz)) (le-ltb h.p_vaddr 0x00010000 load.above)
    (le-ltb 0x7FFF0000 (h.p_vaddr + h.p_memsz) load.below)

-- ---- pages

begins_below : (low high : ℕ) (hs : List ProgramHeader) → low ≤ high → BeginsAbove high hs → BeginsAbove low hs
begins_below low high [] le b = tt
begins_below low high (h ∷ hs) le b = omega arith

-- segments that take memory, the first of which begins above this page, and none of which meets the next, all begin above it
all_above : (page : ℕ) (hs : List ProgramHeader) → AllByRecursion (λ h. h.p_memsz ≢ 0) hs → BeginsAbove (page + 1) hs → has_overlap hs ≡ false → AllByRecursion (λ h. page < first_page_of h) hs
unfolding has_overlap
all_above page [] some b e = tt
all_above page (h ∷ hs) some b e =
    let both = or_parts (meets_next h hs) (has_overlap hs) e in
    let present : h.p_memsz ≢ 0 = some.0 in
    let up : page + 1 ≤ last_page_of h + 1 = omega arith in
    (omega arith, all_above page hs some.1 (begins_below (page + 1) (last_page_of h + 1) hs up (begins_above h hs both.0)) both.1)

abbrev IsBelow : ProgramHeader → ProgramHeader → Type 0
IsBelow h later = last_page_of h < first_page_of later

apart : (hs : List ProgramHeader) → AllByRecursion (λ h. h.p_memsz ≢ 0) hs → has_overlap hs ≡ false → AllPairs IsBelow hs
unfolding has_overlap
apart [] some e = λ i j d low high. absurd (omega arith)
apart (h ∷ hs) some e =
    let both = or_parts (meets_next h hs) (has_overlap hs) e in
    AllPairs-cons IsBelow h hs
    (All-from_recursion (IsBelow h) hs (all_above (last_page_of h) hs some.1 (begins_above h hs both.0) both.1))
    (apart hs some.1 both.1)

no_meeting : (h : ProgramHeader) (hs : List ProgramHeader) → AllPairs IsBelow (h ∷ hs) → meets_next h hs ≡ false
unfolding meets_next
no_meeting h [] pairs = refl
no_meeting h (next ∷ hs) pairs = lt-leb (first_page_of next) (last_page_of h) (pairs 0 1 h (omega arith) (omega arith))

no_overlap : (hs : List ProgramHeader) → AllPairs IsBelow hs → has_overlap hs ≡ false
unfolding has_overlap
no_overlap [] pairs = refl
no_overlap (h ∷ hs) pairs = or_from (meets_next h hs) (has_overlap hs) (no_meeting h hs pairs) (no_overlap hs (λ i j d low high. pairs (suc i) (suc j) d (omega arith) (omega arith)))

-- ---- the entry

code_at : (at : ℕ) (h : ProgramHeader) → is_code_at at h ≡ true → HasCodeAt at h
unfolding is_code_at may_execute
code_at at h e =
    let outer = and_parts (may_execute h && nat_le h.p_vaddr at) (nat_lt at (h.p_vaddr + h.p_memsz)) e in
    let inner = and_parts (may_execute h) (nat_le h.p_vaddr at) outer.0 in
    record {
      executable = eqb-false (bit_and h.p_flags 1) 0 (not-true (bit_and h.p_flags 1 == 0) inner.0);
      begun = leb-true h.p_vaddr at inner.1;
      not_ended = ltb-true at (h.p_vaddr + h.p_memsz) outer.1;
    }

code_from : (at : ℕ) (h : ProgramHeader) → HasCodeAt at h → is_code_at at h ≡ true
unfolding is_code_at may_execute
code_from at h code =
    and_from (may_execute h && nat_le h.p_vaddr at) (nat_lt at (h.p_vaddr + h.p_memsz))
    (and_from (may_execute h) (nat_le h.p_vaddr at) (not_from_false (bit_and h.p_flags 1 == 0) (ne_eqb (bit_and h.p_flags 1) 0 code.executable)) (le-leb h.p_vaddr at code.begun))
    (lt-ltb at (h.p_vaddr + h.p_memsz) code.not_ended)

some_code : (at : ℕ) (hs : List ProgramHeader) → list_any (is_code_at at) hs ≡ true → Any (HasCodeAt at) hs
some_code at hs e = let found = Any-from_list_any (is_code_at at) hs e in (found.0, found.1, found.2, found.3, code_at at found.1 found.4)

code_some : (at : ℕ) (hs : List ProgramHeader) → Any (HasCodeAt at) hs → list_any (is_code_at at) hs ≡ true
code_some at hs found = list_any-from_Any (is_code_at at) hs (found.0, found.1, found.2, found.3, code_from at found.1 found.4)

-- ---- the law

-- the program headers of a file of this length with this entry may be loaded
record AreSound (end entry : ℕ) (hs : List ProgramHeader) : Type 0 where
  segments : All (IsLoadableFrom end) hs
  small : sum_by page_count_of hs ≤ 60
  pages : AllPairs IsBelow hs
  aligned : entry % 4 ≡ 0
  in_code : Any (HasCodeAt entry) hs

headers_sound : (end entry : ℕ) (hs : List ProgramHeader) → first_of (segment_checks end entry hs) ≡ None → AreSound end entry hs
unfolding has_bad_range is_bad_entry
headers_sound end entry hs e =
    let c = six_pass (list_any is_bad_segment hs) (list_any has_bad_size hs) (list_any (is_past_end end) hs) (has_bad_range hs) (has_overlap hs) (is_bad_entry entry hs) BadSegment BadSize PastEnd BadRange Overlap BadEntry e in
    let ranged = or_parts (list_any is_out_of_range hs) (nat_lt 60 (sum_by page_count_of hs)) c.3 in
    let begun = or_parts (not (entry % 4 == 0)) (not (list_any (is_code_at entry) hs)) c.5 in
    let all : All (IsLoadableFrom end) hs =
    λ k d within. loadable end (get_or hs k d) (none_at is_bad_segment hs k d c.0 within) (none_at has_bad_size hs k d c.1 within) (none_at (is_past_end end) hs k d c.2 within) (none_at is_out_of_range hs k d ranged.0 within) in
    record {
      segments = all;
      small = ltb-false 60 (sum_by page_count_of hs) ranged.1;
      pages = apart hs (recursion_from_All (λ (h : ProgramHeader). h.p_memsz ≢ 0) hs (λ k d within. (all k d within).present)) c.4;
      aligned = eqb-true (entry % 4) 0 (not-false (entry % 4 == 0) begun.0);
      in_code = some_code entry hs (not-false (list_any (is_code_at entry) hs) begun.1);
    }

headers_pass : (end entry : ℕ) (hs : List ProgramHeader) → AreSound end entry hs → first_of (segment_checks end entry hs) ≡ None
unfolding has_bad_range is_bad_entry
headers_pass end entry hs sound =
    let at = λ (k : ℕ) (d : ProgramHeader) (within : k < length hs). sound.segments k d within in
    none_of_six (list_any is_bad_segment hs) (list_any has_bad_size hs) (list_any (is_past_end end) hs) (has_bad_range hs) (has_overlap hs) (is_bad_entry entry hs) BadSegment BadSize PastEnd BadRange Overlap BadEntry (
      list_any_none is_bad_segment hs (λ k d within. good_segment end (get_or hs k d) (at k d within)),
      list_any_none has_bad_size hs (λ k d within. good_size end (get_or hs k d) (at k d within)),
      list_any_none (is_past_end end) hs (λ k d within. good_end end (get_or hs k d) (at k d within)),
      or_from (list_any is_out_of_range hs) (nat_lt 60 (sum_by page_count_of hs)) (list_any_none is_out_of_range hs (λ k d within. good_range end (get_or hs k d) (at k d within))) (le-ltb 60 (sum_by page_count_of hs) sound.small),
      no_overlap hs sound.pages,
      or_from (not (entry % 4 == 0)) (not (list_any (is_code_at entry) hs)) (not_from_true (entry % 4 == 0) (eq-eqb (entry % 4) 0 sound.aligned)) (not_from_true (list_any (is_code_at entry) hs) (code_some entry hs sound.in_code)),
    )

sound : (file : List ℕ) → first_fault file ≡ None → IsSound file
unfolding first_fault is_short has_short_table
sound file e =
    let h = file_header file in
    let later = segment_checks (length file) h.e_entry (program_headers file) in
    let prefix = prefix_none (header_checks file) later e in
    let rest = headers_sound (length file) h.e_entry (program_headers file) (sym (first_of-none (header_checks file) later prefix) ∙ e) in
    let c = six_pass (is_short file) (lacks_magic file) (lacks_ident file) (has_bad_kind h) (has_bad_layout h) (has_short_table file) Short BadMagic BadIdent BadKind BadHeader ShortTable prefix in
    record {
      whole_header = ltb-false (length file) 52 c.0;
      identified = identified file c.1 c.2;
      header = executable h c.3 c.4;
      whole_table = ltb-false (length file) (52 + 32 * h.e_phnum) c.5;
      segments = rest.segments;
      small = rest.small;
      apart = rest.pages;
      aligned = rest.aligned;
      in_code = rest.in_code;
    }

faultless : (file : List ℕ) → IsSound file → first_fault file ≡ None
unfolding first_fault is_short has_short_table
faultless file s =
    let h = file_header file in
    let later = segment_checks (length file) h.e_entry (program_headers file) in
    let prefix = none_of_six (is_short file) (lacks_magic file) (lacks_ident file) (has_bad_kind h) (has_bad_layout h) (has_short_table file) Short BadMagic BadIdent BadKind BadHeader ShortTable (
      le-ltb (length file) 52 s.whole_header,
      has_magic file s.identified,
      has_ident file s.identified,
      good_kind h s.header,
      good_layout h s.header,
      le-ltb (length file) (52 + 32 * h.e_phnum) s.whole_table,
    ) in
    let rest : AreSound (length file) h.e_entry (program_headers file) = record { segments = s.segments; small = s.small; pages = s.apart; aligned = s.aligned; in_code = s.in_code } in
    first_of-none (header_checks file) later prefix ∙ headers_pass (length file) h.e_entry (program_headers file) rest

pub sound_files : SoundFiles
sound_files file = (sound file, faultless file)
