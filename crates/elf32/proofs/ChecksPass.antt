-- The headers that are written pass each check.
use Rattle.std.proofs.Common.{◌≡◌, ℕ, suc, zero, ◌+◌, ◌-◌, ◌%◌, ◌<◌, ◌≤◌, Bool, true, false, List, [], ◌∷◌, ◌++◌, length, get_or, replicate, refl, sym, ap, ◌∙◌, arith}
use Rattle.std.specs.Prelude.{◌==◌, ◌||◌, ◌&&◌, not, nat_lt, nat_le, bit_and, Any, sum_by}
use Rattle.std.specs.List.{list_any, AllByRecursion}
use Rattle.std.proofs.lemmas.Bool.{le-ltb, lt-ltb, le-leb, lt-leb, eq-eqb, ne_eqb, or_from, or_left, or_right, and_from, not_from_true}
use Rattle.std.proofs.lemmas.List.{length-append, length-replicate}
use Rattle.std.proofs.lemmas.List.Sums.{sum_by-cons}
use Rattle.memory_model.specs.declared.access.Rights.{Rights}
use Rattle.machine_model.specs.declared.image.Segment.{Segment}
use Rattle.machine_model.specs.Images.{IsLoadable, AreAscending, IsCode, first_page, last_page, page_count}
use Rattle.image_model.specs.Checks.{may_execute, is_not_loaded, has_bad_flags, is_misplaced, is_bad_segment, has_bad_size, is_past_end, page_count_of, is_out_of_range, has_bad_range, meets_next, has_overlap, is_code_at, is_bad_entry}
use Rattle.elf32.specs.Files.{flags_of, offset_after, end_after, contents_after}
use Rattle.elf32.proofs.Passing.{list_any-none}
use Rattle.elf32.proofs.Written.{offset_above}
use Rattle.elf32.proofs.SegmentsBack.{rights_of, flags_back}
use Rattle.elf32.proofs.FieldsBack.{program_header_for, headers_for}

abbrev bad_flags : Rights → Bool
bad_flags r = flags_of r == 0 || nat_lt 7 (flags_of r)

flags_pass : (r w x : Bool) → (r || w || x) ≡ true → bad_flags (rights_of r w x) ≡ false
flags_pass true true true some = refl
flags_pass true true false some = refl
flags_pass true false true some = refl
flags_pass true false false some = refl
flags_pass false true true some = refl
flags_pass false true false some = refl
flags_pass false false true some = refl
flags_pass false false false some = absurd cc

aligned : (end : ℕ) (s : Segment) → offset_after end s % 4096 ≡ s.vaddr % 4096
unfolding offset_after
aligned end s = omega arith

segment_passes : (end : ℕ) (s : Segment) → IsLoadable s → is_bad_segment (program_header_for (offset_after end s) s) ≡ false
unfolding is_not_loaded has_bad_flags is_misplaced
segment_passes end s load =
    or_from (bad_flags s.rights) (s.memsz == 0 || not (offset_after end s % 4096 == s.vaddr % 4096))
    (flags_pass s.rights.read s.rights.write s.rights.execute load.some_right)
    (or_from (s.memsz == 0) (not (offset_after end s % 4096 == s.vaddr % 4096)) (ne_eqb s.memsz 0 (λ e. omega (arith, load.present, e)))
    (not_from_true (offset_after end s % 4096 == s.vaddr % 4096) (eq-eqb (offset_after end s % 4096) (s.vaddr % 4096) (aligned end s))))

pub segments_pass : (end : ℕ) (ss : List Segment) → AllByRecursion IsLoadable ss → AllByRecursion (λ h. is_bad_segment h ≡ false) (headers_for end ss)
segments_pass end [] load = tt
segments_pass end (s ∷ ss) load = (segment_passes end s load.0, segments_pass (end_after end s) ss load.1)

pub sizes_pass : (end : ℕ) (ss : List Segment) → AllByRecursion IsLoadable ss → AllByRecursion (λ h. has_bad_size h ≡ false) (headers_for end ss)
unfolding has_bad_size
sizes_pass end [] load = tt
sizes_pass end (s ∷ ss) load = (le-ltb s.memsz (length s.bytes) load.0.within, sizes_pass (end_after end s) ss load.1)

pub ends_pass : (total end : ℕ) (ss : List Segment) → end + length (contents_after end ss) ≤ total → AllByRecursion (λ h. is_past_end total h ≡ false) (headers_for end ss)
unfolding is_past_end
ends_pass total end [] within = tt
ends_pass total end (s ∷ ss) within =
    let above = offset_above end s in
    let zeros = length-replicate (offset_after end s - end) (zero) in
    let rest = length-append s.bytes (contents_after (end_after end s) ss) in
    let all = length-append (replicate (offset_after end s - end) (zero)) (s.bytes ++ contents_after (end_after end s) ss) in
    (le-ltb total (offset_after end s + length s.bytes) (omega arith), ends_pass total (end_after end s) ss (omega arith))

ranges_pass : (end : ℕ) (ss : List Segment) → AllByRecursion IsLoadable ss → AllByRecursion (λ h. is_out_of_range h ≡ false) (headers_for end ss)
unfolding is_out_of_range
ranges_pass end [] load = tt
ranges_pass end (s ∷ ss) load = (
  or_from (nat_lt s.vaddr 0x00010000) (nat_lt 0x7FFF0000 (s.vaddr + s.memsz)) (le-ltb s.vaddr 0x00010000 load.0.above) (le-ltb 0x7FFF0000 (s.vaddr + s.memsz) load.0.below),
  ranges_pass (end_after end s) ss load.1,
)

page_sums : (end : ℕ) (ss : List Segment) → sum_by page_count_of (headers_for end ss) ≡ sum_by page_count ss
unfolding page_count_of
page_sums end [] = refl
page_sums end (s ∷ ss) =
    sum_by-cons page_count_of (program_header_for (offset_after end s) s) (headers_for (end_after end s) ss)
    ∙ ap (λ (n : ℕ). page_count s + n) (page_sums (end_after end s) ss)
    ∙ sym (sum_by-cons page_count s ss)

pub range_passes : (end : ℕ) (ss : List Segment) → AllByRecursion IsLoadable ss → sum_by page_count ss ≤ 60 → has_bad_range (headers_for end ss) ≡ false
unfolding has_bad_range
range_passes end ss load few =
    or_from (list_any is_out_of_range (headers_for end ss)) (nat_lt 60 (sum_by page_count_of (headers_for end ss)))
    (list_any-none is_out_of_range (headers_for end ss) (ranges_pass end ss load))
    (le-ltb 60 (sum_by page_count_of (headers_for end ss)) (omega (arith, few, page_sums end ss)))

next_passes : (end : ℕ) (s : Segment) (ss : List Segment) (next : ℕ) → AreAscending (last_page s + 1) ss → meets_next (program_header_for (offset_after end s) s) (headers_for next ss) ≡ false
unfolding meets_next
next_passes end s [] next up = refl
next_passes end s (t ∷ ss) next up = lt-leb (first_page t) (last_page s) (omega (arith, up.0))

pub overlap_passes : (page end : ℕ) (ss : List Segment) → AreAscending page ss → has_overlap (headers_for end ss) ≡ false
unfolding has_overlap
overlap_passes page end [] up = refl
overlap_passes page end (s ∷ ss) up =
    or_from (meets_next (program_header_for (offset_after end s) s) (headers_for (end_after end s) ss)) (has_overlap (headers_for (end_after end s) ss))
    (next_passes end s ss (end_after end s) up.1) (overlap_passes (last_page s + 1) (end_after end s) ss up.1)

code_passes : (entry offset : ℕ) (s : Segment) → IsCode entry s → is_code_at entry (program_header_for offset s) ≡ true
unfolding is_code_at may_execute
code_passes entry offset s code =
    and_from (not (bit_and (flags_of s.rights) 1 == 0) && nat_le s.vaddr entry) (nat_lt entry (s.vaddr + s.memsz))
    (and_from (not (bit_and (flags_of s.rights) 1 == 0)) (nat_le s.vaddr entry) (ap (λ (r : Rights). r.execute) (flags_back s.rights.read s.rights.write s.rights.execute) ∙ code.0) (le-leb s.vaddr entry code.1))
    (lt-ltb entry (s.vaddr + s.memsz) code.2)

some_code : (entry end : ℕ) (ss : List Segment) (k : ℕ) (s : Segment) → k < length ss → get_or ss k s ≡ s → IsCode entry s → list_any (is_code_at entry) (headers_for end ss) ≡ true
some_code entry end [] k s small is code = absurd (omega arith)
some_code entry end (x ∷ ss) zero s small is code =
    or_left (is_code_at entry (program_header_for (offset_after end x) x)) (list_any (is_code_at entry) (headers_for (end_after end x) ss)) (rw is (code_passes entry (offset_after end s) s code))
some_code entry end (x ∷ ss) (suc k) s small is code =
    or_right (is_code_at entry (program_header_for (offset_after end x) x)) (list_any (is_code_at entry) (headers_for (end_after end x) ss)) (some_code entry (end_after end x) ss k s (omega arith) is code)

pub entry_passes : (entry end : ℕ) (ss : List Segment) → entry % 4 ≡ 0 → Any (IsCode entry) ss → is_bad_entry entry (headers_for end ss) ≡ false
unfolding is_bad_entry
entry_passes entry end ss even found =
    or_from (not (entry % 4 == 0)) (not (list_any (is_code_at entry) (headers_for end ss)))
    (not_from_true (entry % 4 == 0) (eq-eqb (entry % 4) 0 even))
    (not_from_true (list_any (is_code_at entry) (headers_for end ss)) (some_code entry end ss found.0 found.1 found.2 found.3 found.4))
