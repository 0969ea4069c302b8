-- The program that a file without a fault names keeps the profile.
use Rattle.std.proofs.Common.{◌≡◌, ℕ, suc, zero, ◌+◌, ◌%◌, ◌≤◌, Bool, true, false, List, [], ◌∷◌, length, map, drop, None, refl, sym, ap, ◌∙◌, arith}
use Rattle.std.specs.Prelude.{◌==◌, ◌||◌, ◌&&◌, not, nat_lt, nat_le, bit_and, Any, sum_by}
use Rattle.std.specs.List.{list_any, AllByRecursion}
use Rattle.std.proofs.lemmas.Bool.{or_parts, and_parts, ltb-false, ltb-true, leb-true, leb-false, eqb-true, eqb-false, not-false}
use Rattle.std.proofs.lemmas.List.{length-map, length-take}
use Rattle.std.proofs.lemmas.List.Sums.{sum_by-cons}
use Rattle.std.proofs.lemmas.List.Elements.{All-from_recursion}
use Rattle.image_model.specs.declared.header.ProgramHeader.{ProgramHeader}
use Rattle.machine_model.specs.declared.image.Segment.{Segment}
use Rattle.image_model.specs.declared.fault.ElfFault.TheVariants.{BadSegment, BadSize, PastEnd, BadRange, Overlap, BadEntry}
use Rattle.machine_model.specs.Images.{IsLoadable, IsProfile, AreAscending, IsCode, page_count}
use Rattle.image_model.specs.Checks.{may_read, may_write, may_execute, is_not_loaded, has_bad_flags, is_misplaced, is_bad_segment, has_bad_size, is_past_end, first_page_of, last_page_of, page_count_of, is_out_of_range, has_bad_range, meets_next, has_overlap, is_code_at, is_bad_entry, first_of, segment_checks}
use Rattle.image_model.specs.Names.{segment_in}
use Rattle.elf32.proofs.Passing.{none_passes, six_pass}

-- flags from 1 to 7 give some right
some_right : (flags : ℕ) → (flags == 0) ≡ false → nat_lt 7 flags ≡ false → (not (bit_and flags 4 == 0) || not (bit_and flags 2 == 0) || not (bit_and flags 1 == 0)) ≡ true
some_right zero e small = absurd cc
some_right (suc zero) e small = refl
some_right (suc (suc zero)) e small = refl
some_right (suc (suc (suc zero))) e small = refl
some_right (suc (suc (suc (suc zero)))) e small = refl
some_right (suc (suc (suc (suc (suc zero))))) e small = refl
some_right (suc (suc (suc (suc (suc (suc zero)))))) e small = refl
some_right (suc (suc (suc (suc (suc (suc (suc zero))))))) e small = refl
some_right (suc (suc (suc (suc (suc (suc (suc (suc n)))))))) e small = absurd (omega (arith, ltb-false _ _ small))

-- a segment gives some right and no unknown one, and takes memory
abbrev pub Serves : ProgramHeader → Type 0
Serves h = (has_bad_flags h ≡ false) × ((h.p_memsz == 0) ≡ false)

loadable : (file : List ℕ) (h : ProgramHeader) → Serves h → has_bad_size h ≡ false → is_out_of_range h ≡ false → IsLoadable (segment_in file h)
unfolding may_read may_write may_execute has_bad_flags has_bad_size is_out_of_range segment_in
loadable file h serves sized ranged =
    let few = or_parts (h.p_flags == 0) (nat_lt 7 h.p_flags) serves.0 in
    let range = or_parts (nat_lt h.p_vaddr 0x00010000) (nat_lt 0x7FFF0000 (h.p_vaddr + h.p_memsz)) ranged in
    let some : h.p_memsz ≡ 0 → ⊥ = eqb-false h.p_memsz 0 serves.1 in
    record {
      present = omega (arith, some);
      within = omega (arith, ltb-false h.p_memsz h.p_filesz sized, length-take h.p_filesz (drop h.p_offset file));
      some_right = some_right h.p_flags few.0 few.1;
      above = ltb-false h.p_vaddr 0x00010000 range.0;
      below = ltb-false 0x7FFF0000 (h.p_vaddr + h.p_memsz) range.1;
    }

all_loadable : (file : List ℕ) (hs : List ProgramHeader) → AllByRecursion Serves hs → AllByRecursion (λ h. has_bad_size h ≡ false) hs → AllByRecursion (λ h. is_out_of_range h ≡ false) hs
    → AllByRecursion IsLoadable (map (segment_in file) hs)
all_loadable file [] serve sized ranged = tt
all_loadable file (h ∷ hs) serve sized ranged = (loadable file h serve.0 sized.0 ranged.0, all_loadable file hs serve.1 sized.1 ranged.1)

-- the first of these segments begins on this page or above
abbrev pub BeginsAbove : ℕ → List ProgramHeader → Type 0
BeginsAbove page [] = Unit {0}
BeginsAbove page (h ∷ hs) = page ≤ first_page_of h

pub begins_above : (h : ProgramHeader) (hs : List ProgramHeader) → meets_next h hs ≡ false → BeginsAbove (last_page_of h + 1) hs
unfolding meets_next
begins_above h [] e = tt
begins_above h (next ∷ hs) e = omega (arith, leb-false (first_page_of next) (last_page_of h) e)

ascending : (file : List ℕ) (page : ℕ) (hs : List ProgramHeader) → BeginsAbove page hs → has_overlap hs ≡ false → AreAscending page (map (segment_in file) hs)
unfolding has_overlap segment_in
ascending file page [] begins e = tt
ascending file page (h ∷ hs) begins e =
    let both = or_parts (meets_next h hs) (has_overlap hs) e in
    (begins, ascending file (last_page_of h + 1) hs (begins_above h hs both.0) both.1)

begins_somewhere : (hs : List ProgramHeader) → BeginsAbove 0 hs
begins_somewhere [] = tt
begins_somewhere (h ∷ hs) = omega arith

page_sum : (file : List ℕ) (hs : List ProgramHeader) → sum_by page_count (map (segment_in file) hs) ≡ sum_by page_count_of hs
unfolding page_count_of segment_in
page_sum file [] = refl
page_sum file (h ∷ hs) =
    sum_by-cons page_count (segment_in file h) (map (segment_in file) hs)
    ∙ ap (λ (n : ℕ). page_count_of h + n) (page_sum file hs)
    ∙ sym (sum_by-cons page_count_of h hs)

code_at : (file : List ℕ) (entry : ℕ) (h : ProgramHeader) → is_code_at entry h ≡ true → IsCode entry (segment_in file h)
unfolding is_code_at segment_in
code_at file entry h e =
    let outer = and_parts (may_execute h && nat_le h.p_vaddr entry) (nat_lt entry (h.p_vaddr + h.p_memsz)) e in
    let inner = and_parts (may_execute h) (nat_le h.p_vaddr entry) outer.0 in
    (inner.0, leb-true h.p_vaddr entry inner.1, ltb-true entry (h.p_vaddr + h.p_memsz) outer.1)

code_cons : (entry : ℕ) (s : Segment) (ss : List Segment) (here rest : Bool) → (here ≡ true → IsCode entry s) → (rest ≡ true → Any (IsCode entry) ss) → (here || rest) ≡ true → Any (IsCode entry) (s ∷ ss)
code_cons entry s ss true rest first others e = (0, s, omega arith, refl, first refl)
code_cons entry s ss false rest first others e =
    let found = others e in
    (suc found.0, found.1, omega (arith, found.2), found.3, found.4)

in_code : (file : List ℕ) (entry : ℕ) (hs : List ProgramHeader) → list_any (is_code_at entry) hs ≡ true → Any (IsCode entry) (map (segment_in file) hs)
in_code file entry [] e = absurd cc
in_code file entry (h ∷ hs) e = code_cons entry (segment_in file h) (map (segment_in file) hs) (is_code_at entry h) (list_any (is_code_at entry) hs) (code_at file entry h) (in_code file entry hs) e

-- what is known of the segments of a file without a fault, with this entry
pub record Pass (entry : ℕ) (hs : List ProgramHeader) : Type 0 where
  pub some : 1 ≤ length hs
  pub few : length hs ≤ 4
  pub serve : AllByRecursion Serves hs
  pub sized : list_any has_bad_size hs ≡ false
  pub ranged : list_any is_out_of_range hs ≡ false
  pub apart : has_overlap hs ≡ false
  pub small : nat_lt 60 (sum_by page_count_of hs) ≡ false
  pub aligned : not (entry % 4 == 0) ≡ false
  pub code : not (list_any (is_code_at entry) hs) ≡ false

-- their program keeps the profile
pub profile_of : (file : List ℕ) (entry : ℕ) (hs : List ProgramHeader) → Pass entry hs → IsProfile (record { entry = entry; segments = map (segment_in file) hs })
profile_of file entry hs pass =
    let count : length (map (segment_in file) hs) ≡ length hs = length-map hs (segment_in file) in
    record {
      some = omega (arith, count, pass.some);
      few = omega (arith, count, pass.few);
      loadable = All-from_recursion IsLoadable (map (segment_in file) hs) (all_loadable file hs pass.serve (none_passes has_bad_size hs pass.sized) (none_passes is_out_of_range hs pass.ranged));
      ascending = ascending file 0 hs (begins_somewhere hs) pass.apart;
      small = omega (arith, page_sum file hs, ltb-false 60 (sum_by page_count_of hs) pass.small);
      aligned = eqb-true (entry % 4) 0 (not-false (entry % 4 == 0) pass.aligned);
      in_code = in_code file entry hs (not-false (list_any (is_code_at entry) hs) pass.code);
    }

all_serve : (hs : List ProgramHeader) → AllByRecursion (λ h. is_bad_segment h ≡ false) hs → AllByRecursion Serves hs
unfolding is_misplaced
all_serve [] good = tt
all_serve (h ∷ hs) good =
    let parts = or_parts (is_not_loaded h || has_bad_flags h) (is_misplaced h) good.0 in
    (((or_parts (is_not_loaded h) (has_bad_flags h) parts.0).1, (or_parts (h.p_memsz == 0) (not (h.p_offset % 4096 == h.p_vaddr % 4096)) parts.1).0), all_serve hs good.1)

-- the program of headers with no fault keeps the profile
pub profile : (file : List ℕ) (end entry : ℕ) (hs : List ProgramHeader) → 1 ≤ length hs → length hs ≤ 4 → first_of (segment_checks end entry hs) ≡ None → IsProfile (record { entry = entry; segments = map (segment_in file) hs })
unfolding has_bad_range is_bad_entry
profile file end entry hs some few sound =
    let c = six_pass (list_any is_bad_segment hs) (list_any has_bad_size hs) (list_any (is_past_end end) hs) (has_bad_range hs) (has_overlap hs) (is_bad_entry entry hs) BadSegment BadSize PastEnd BadRange Overlap BadEntry sound in
    let range = or_parts (list_any is_out_of_range hs) (nat_lt 60 (sum_by page_count_of hs)) c.3 in
    let begun = or_parts (not (entry % 4 == 0)) (not (list_any (is_code_at entry) hs)) c.5 in
    profile_of file entry hs (record {
      some = some;
      few = few;
      serve = all_serve hs (none_passes is_bad_segment hs c.0);
      sized = c.1;
      ranged = range.0;
      apart = c.4;
      small = range.1;
      aligned = begun.0;
      code = begun.1;
    })
