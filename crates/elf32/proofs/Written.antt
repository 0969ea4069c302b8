-- A file as it is written, part by part.
use Rattle.std.proofs.Common.{◌≡◌, ℕ, suc, zero, ◌+◌, ◌-◌, ◌*◌, ◌/◌, ◌%◌, ◌≤◌, List, [], ◌∷◌, ◌++◌, length, get_or, take, drop, replicate, refl, ap, ◌∙◌, arith}
use Rattle.std.specs.Prelude.{sum_by}
use Rattle.std.specs.List.{AllByRecursion}
use Rattle.std.proofs.lemmas.List.{append_assoc, length-append, length-replicate, take_all}
use Rattle.std.proofs.lemmas.List.Elements.{recursion_from_All}
use Rattle.std.proofs.lemmas.List.Sums.{sum_by-cons}
use Rattle.machine_model.specs.declared.image.Segment.{Segment}
use Rattle.machine_model.specs.Images.{Program, IsLoadable, IsProfile, page_count}
use Rattle.elf32.specs.Files.{AreNear, file_header_of, program_header_of, offset_after, end_after, table_after, contents_after, headers_of, file_of}

-- a segment's bytes lie in its pages
page_fit : (s : Segment) → IsLoadable s → s.vaddr % 4096 + length s.bytes ≤ 4096 * page_count s
page_fit s load = omega (arith, load.present, load.within)

near_after : (end : ℕ) (ss : List Segment) → AllByRecursion IsLoadable ss → (end + 4095) / 4096 + sum_by page_count ss ≤ 61 → AreNear end ss
unfolding offset_after
near_after end [] load few = omega (arith, few)
near_after end (s ∷ ss) load few =
    let fit = page_fit s load.0 in
    let parts = sum_by-cons page_count s ss in
    (omega (arith, few), omega arith, near_after (end_after end s) ss load.1 (omega arith))

-- the segments of a program that may be loaded lie near
pub near : (p : Program) → IsProfile p → AreNear 4096 p.segments
near p profile = near_after 4096 p.segments (recursion_from_All IsLoadable p.segments profile.loadable) (omega (arith, profile.small))

-- a segment's bytes do not begin before the end of those that come before them
pub offset_above : (end : ℕ) (s : Segment) → end ≤ offset_after end s
unfolding offset_after
offset_above end s = omega arith

-- the bytes of one more segment
contents_more : (old first second new : List ℕ) (offset len end : ℕ) (s : Segment) (ss : List Segment) → len ≡ length old → offset ≡ offset_after len s → first ≡ take offset old ++ replicate (offset - len) 0
    → second ≡ first ++ s.bytes → end ≡ length second → new ≡ second ++ contents_after end ss → new ≡ old ++ contents_after len (s ∷ ss)
contents_more old first second new offset len end s ss len-is offset-is first-is second-is end-is new-is =
    new-is ∙ ap (λ (n : ℕ). second ++ contents_after n ss) at_end
    ∙ ap (λ (bytes : List ℕ). bytes ++ contents_after (end_after len s) ss) whole
    ∙ append_assoc old (zeros ++ s.bytes) (contents_after (end_after len s) ss)
    ∙ ap (λ (bytes : List ℕ). old ++ bytes) (append_assoc zeros s.bytes (contents_after (end_after len s) ss))
  where
    zeros : List ℕ
    zeros = replicate (offset_after len s - len) 0

    kept : take offset old ≡ old
    kept = take_all offset old (omega (arith, offset_above len s))

    whole : second ≡ old ++ (zeros ++ s.bytes)
    whole =
        second-is ∙ ap (λ (bytes : List ℕ). bytes ++ s.bytes) (first-is ∙ ap (λ (bytes : List ℕ). bytes ++ replicate (offset - len) 0) kept ∙ ap (λ (n : ℕ). old ++ replicate (n - len) 0) offset-is)
        ∙ append_assoc old zeros s.bytes

    at_end : end ≡ end_after len s
    at_end =
        let size = ap length whole in
        omega (arith, size, end-is, len-is, offset_above len s, length-append old (zeros ++ s.bytes), length-append zeros s.bytes, length-replicate (offset_after len s - len) (zero))

pub length-file_header : (entry count : ℕ) → length (file_header_of entry count) ≡ 52
unfolding file_header_of
length-file_header entry count = refl

pub length-table : (end : ℕ) (ss : List Segment) → length (table_after end ss) ≡ 32 * length ss
unfolding program_header_of
length-table end [] = refl
length-table end (s ∷ ss) = omega (arith, length-table (end_after end s) ss, length-append (program_header_of (offset_after end s) s) (table_after (end_after end s) ss))

pub length-headers : (p : Program) → length (headers_of p) ≡ 52 + 32 * length p.segments
length-headers p = omega (arith, length-append (file_header_of p.entry (length p.segments)) (table_after 4096 p.segments), length-file_header p.entry (length p.segments), length-table 4096 p.segments)

-- the first of segments, and the rest of them
first_and_rest : (ss : List Segment) (s : Segment) → 1 ≤ length ss → s ≡ get_or ss 0 s → s ∷ take (length ss - 1) (drop 1 ss) ≡ ss
first_and_rest [] s some is = absurd (omega arith)
first_and_rest (x ∷ ss) s some is =
    let less : suc (length ss) - 1 ≡ length ss = omega arith in
    ap (λ (y : Segment). y ∷ take (suc (length ss) - 1) ss) is ∙ ap (λ (rest : List Segment). x ∷ rest) (take_all (suc (length ss) - 1) ss (omega arith))

-- the parts, one after the other
pub written : (p : Program) (segments : List Segment) (entry count size end : ℕ) (none header table prefix whole : List ℕ) → IsProfile p → segments ≡ p.segments → entry ≡ p.entry → count ≡ length segments
    → none ≡ [] → header ≡ none ++ file_header_of entry count → table ≡ header ++ table_after 4096 segments → size ≡ length table → prefix ≡ take 4096 table ++ replicate (4096 - size) 0 → end ≡ 4096
    → whole ≡ prefix ++ contents_after end segments → whole ≡ file_of p
unfolding file_of
written p segments entry count size end none header table prefix whole profile segments-are entry-is count-is none-is header-is table-is size-is prefix-is end-is whole-is =
    whole-is ∙ ap (λ (bytes : List ℕ). bytes ++ contents_after end segments) padded
    ∙ append_assoc (headers_of p) zeros (contents_after end segments)
    ∙ ap (λ (n : ℕ). headers_of p ++ (zeros ++ contents_after n segments)) end-is
    ∙ ap (λ (ss : List Segment). headers_of p ++ (zeros ++ contents_after 4096 ss)) segments-are
  where
    zeros : List ℕ
    zeros = replicate (4096 - length (headers_of p)) 0

    counted : count ≡ length p.segments
    counted = count-is ∙ ap length segments-are

    headed : header ≡ file_header_of p.entry (length p.segments)
    headed =
        header-is ∙ ap (λ (bytes : List ℕ). bytes ++ file_header_of entry count) none-is
        ∙ ap (λ (n : ℕ). file_header_of n count) entry-is ∙ ap (file_header_of p.entry) counted

    headers : table ≡ headers_of p
    headers =
        table-is ∙ ap (λ (bytes : List ℕ). bytes ++ table_after 4096 segments) headed
        ∙ ap (λ (ss : List Segment). file_header_of p.entry (length p.segments) ++ table_after 4096 ss) segments-are

    padded : prefix ≡ headers_of p ++ zeros
    padded =
        prefix-is ∙ ap (λ (bytes : List ℕ). take 4096 bytes ++ replicate (4096 - size) 0) headers
        ∙ ap (λ (n : ℕ). take 4096 (headers_of p) ++ replicate (4096 - n) 0) (size-is ∙ ap length headers)
        ∙ ap (λ (bytes : List ℕ). bytes ++ zeros) (take_all 4096 (headers_of p) (omega (arith, length-headers p, profile.few)))

-- the bytes of segments, of which the first was written and then the rest
pub contents_first : (old first second new : List ℕ) (offset len end : ℕ) (s : Segment) (segments : List Segment) → 1 ≤ length segments → s ≡ get_or segments 0 s → len ≡ length old → offset ≡ offset_after len s
    → first ≡ take offset old ++ replicate (offset - len) 0 → second ≡ first ++ s.bytes → end ≡ length second → new ≡ second ++ contents_after end (take (length segments - 1) (drop 1 segments)) → new ≡ old ++ contents_after len segments
contents_first old first second new offset len end s segments some is len-is offset-is first-is second-is end-is new-is =
    contents_more old first second new offset len end s (take (length segments - 1) (drop 1 segments)) len-is offset-is first-is second-is end-is new-is
    ∙ ap (λ (ss : List Segment). old ++ contents_after len ss) (first_and_rest segments s some is)
