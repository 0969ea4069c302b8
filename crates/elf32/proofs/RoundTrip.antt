-- A file that was written is parsed again.
use Rattle.std.proofs.Common.{◌≡◌, ℕ, suc, zero, ◌+◌, ◌-◌, ◌*◌, ◌^◌, ◌<◌, false, List, [], ◌∷◌, ◌++◌, length, get_or, map, replicate, None, refl, sym, ap, ◌∙◌, arith}
use Rattle.std.specs.List.{list_any, AllByRecursion}
use Rattle.std.proofs.lemmas.Bool.{le-ltb, le-leb}
use Rattle.std.proofs.lemmas.List.{append_assoc, length-append, length-replicate}
use Rattle.std.proofs.lemmas.List.Elements.{recursion_from_All}
use Rattle.image_model.specs.declared.header.FileHeader.{FileHeader}
use Rattle.image_model.specs.declared.header.ProgramHeader.{ProgramHeader}
use Rattle.machine_model.specs.declared.image.Segment.{Segment}
use Rattle.image_model.specs.declared.fault.ElfFault.TheVariants.{Short, BadMagic, BadIdent, BadKind, BadHeader, ShortTable, BadSegment, BadSize, PastEnd, BadRange, Overlap, BadEntry}
use Rattle.machine_model.specs.Images.{Program, IsLoadable, IsProfile, IsCode}
use Rattle.image_model.specs.Fields.{file_header, headers_in, program_headers}
use Rattle.image_model.specs.Checks.{is_short, lacks_magic, lacks_ident, has_bad_kind, has_bad_table, has_sections, has_bad_layout, has_short_table, is_bad_segment, has_bad_size, is_past_end, has_bad_range, has_overlap, is_bad_entry, first_of, header_checks, segment_checks, first_fault}
use Rattle.image_model.specs.Names.{segment_in, program_in}
use Rattle.elf32.specs.Files.{file_header_of, table_after, contents_after, headers_of, file_of, RoundTrips}
use Rattle.elf32.proofs.Passing.{first_of-none, none_of_six, list_any-none}
use Rattle.elf32.proofs.Written.{near, length-headers}
use Rattle.elf32.proofs.FieldsBack.{header_for, file_header_back, headers_for, table_back}
use Rattle.elf32.proofs.SegmentsBack.{segments_back}
use Rattle.elf32.proofs.ChecksPass.{segments_pass, sizes_pass, ends_pass, range_passes, overlap_passes, entry_passes}

-- the bytes after the headers
abbrev after : Program → List ℕ
after p = replicate (4096 - length (headers_of p)) 0 ++ contents_after 4096 p.segments

loadables : (p : Program) → IsProfile p → AllByRecursion IsLoadable p.segments
loadables p profile = recursion_from_All IsLoadable p.segments profile.loadable

code_small : (entry : ℕ) (ss : List Segment) (k : ℕ) (s : Segment) → AllByRecursion IsLoadable ss → k < length ss → get_or ss k s ≡ s → IsCode entry s → entry < 2 ^ 32
code_small entry [] k s load small is code = absurd (omega arith)
code_small entry (x ∷ ss) zero s load small is code =
    let below = rw is at load.0.below in
    omega (arith, below, code.2)
code_small entry (x ∷ ss) (suc k) s load small is code = code_small entry ss k s load.1 (omega arith) is code

entry_small : (p : Program) → IsProfile p → p.entry < 2 ^ 32
entry_small p profile = let found = profile.in_code in code_small p.entry p.segments found.0 found.1 (loadables p profile) found.2 found.3 found.4

header_back : (p : Program) → IsProfile p → file_header (file_of p) ≡ header_for p.entry (length p.segments)
unfolding file_of
header_back p profile =
    ap file_header (append_assoc (file_header_of p.entry (length p.segments)) (table_after 4096 p.segments) (after p))
    ∙ file_header_back p.entry (length p.segments) (table_after 4096 p.segments ++ after p) (entry_small p profile) (omega (arith, profile.few))

headers_back : (p : Program) → IsProfile p → program_headers (file_of p) ≡ headers_for 4096 p.segments
unfolding program_headers file_of file_header_of
headers_back p profile =
    ap (λ (h : FileHeader). headers_in h.e_phnum (table_after 4096 p.segments ++ after p)) (header_back p profile)
    ∙ table_back 4096 p.segments (after p) (near p profile) (loadables p profile)

prefix_size : (p : Program) → IsProfile p → length (headers_of p ++ replicate (4096 - length (headers_of p)) 0) ≡ 4096
prefix_size p profile = omega (arith, length-headers p, profile.few, length-append (headers_of p) (replicate (4096 - length (headers_of p)) (zero)), length-replicate (4096 - length (headers_of p)) (zero))

in_parts : (p : Program) → file_of p ≡ (headers_of p ++ replicate (4096 - length (headers_of p)) 0) ++ contents_after 4096 p.segments
unfolding file_of
in_parts p = sym (append_assoc (headers_of p) (replicate (4096 - length (headers_of p)) 0) (contents_after 4096 p.segments))

size_of : (p : Program) → IsProfile p → length (file_of p) ≡ 4096 + length (contents_after 4096 p.segments)
size_of p profile = ap length (in_parts p) ∙ length-append (headers_of p ++ replicate (4096 - length (headers_of p)) 0) (contents_after 4096 p.segments) ∙ ap (λ (n : ℕ). n + length (contents_after 4096 p.segments)) (prefix_size p profile)

same_program : (p : Program) → IsProfile p → program_in (file_of p) ≡ p
unfolding program_in
same_program p profile =
    ap (λ (h : FileHeader). record { entry = h.e_entry; segments = map (segment_in (file_of p)) (program_headers (file_of p)) }) (header_back p profile)
    ∙ ap (λ (ss : List Segment). record { entry = p.entry; segments = ss })
    (ap (map (segment_in (file_of p))) (headers_back p profile)
    ∙ ap (λ (bytes : List ℕ). map (segment_in bytes) (headers_for 4096 p.segments)) (in_parts p)
    ∙ segments_back (headers_of p ++ replicate (4096 - length (headers_of p)) 0) 4096 p.segments (prefix_size p profile))

magic_passes : (p : Program) → lacks_magic (file_of p) ≡ false
unfolding lacks_magic file_of file_header_of
magic_passes p = refl

ident_passes : (p : Program) → lacks_ident (file_of p) ≡ false
unfolding lacks_ident file_of file_header_of
ident_passes p = refl

kind_passes : (p : Program) → IsProfile p → has_bad_kind (file_header (file_of p)) ≡ false
unfolding has_bad_kind
kind_passes p profile = ap has_bad_kind (header_back p profile)

layout_passes : (p : Program) → IsProfile p → has_bad_layout (file_header (file_of p)) ≡ false
unfolding has_bad_table has_sections
layout_passes p profile =
    let some = le-leb 1 (length p.segments) (omega (arith, profile.some)) in
    let few = le-leb (length p.segments) 4 profile.few in
    ap has_bad_layout (header_back p profile) ∙ rw (some, few) refl

table_passes : (p : Program) → IsProfile p → has_short_table (file_of p) ≡ false
unfolding has_short_table
table_passes p profile =
    let count : (file_header (file_of p)).e_phnum ≡ length p.segments = ap (λ (h : FileHeader). h.e_phnum) (header_back p profile) in
    le-ltb (length (file_of p)) (52 + 32 * (file_header (file_of p)).e_phnum) (omega (arith, count, profile.few, size_of p profile))

short_passes : (p : Program) → IsProfile p → is_short (file_of p) ≡ false
unfolding is_short
short_passes p profile = le-ltb (length (file_of p)) 52 (omega (arith, size_of p profile))

headers_pass : (p : Program) → IsProfile p → first_of (header_checks (file_of p)) ≡ None
headers_pass p profile =
    none_of_six (is_short (file_of p)) (lacks_magic (file_of p)) (lacks_ident (file_of p)) (has_bad_kind (file_header (file_of p))) (has_bad_layout (file_header (file_of p))) (has_short_table (file_of p))
    Short BadMagic BadIdent BadKind BadHeader ShortTable (short_passes p profile, magic_passes p, ident_passes p, kind_passes p profile, layout_passes p profile, table_passes p profile)

written_pass : (total : ℕ) (p : Program) → IsProfile p → total ≡ 4096 + length (contents_after 4096 p.segments) → first_of (segment_checks total p.entry (headers_for 4096 p.segments)) ≡ None
written_pass total p profile size =
    let hs = headers_for 4096 p.segments in
    let load = loadables p profile in
    none_of_six (list_any is_bad_segment hs) (list_any has_bad_size hs) (list_any (is_past_end total) hs) (has_bad_range hs) (has_overlap hs) (is_bad_entry p.entry hs)
    BadSegment BadSize PastEnd BadRange Overlap BadEntry (
      list_any-none is_bad_segment hs (segments_pass 4096 p.segments load),
      list_any-none has_bad_size hs (sizes_pass 4096 p.segments load),
      list_any-none (is_past_end total) hs (ends_pass total 4096 p.segments (omega (arith, size))),
      range_passes 4096 p.segments load profile.small,
      overlap_passes 0 4096 p.segments profile.ascending,
      entry_passes p.entry 4096 p.segments profile.aligned profile.in_code,
    )

segments_sound : (p : Program) → IsProfile p → first_of (segment_checks (length (file_of p)) (file_header (file_of p)).e_entry (program_headers (file_of p))) ≡ None
segments_sound p profile =
    ap (λ (h : FileHeader). first_of (segment_checks (length (file_of p)) h.e_entry (program_headers (file_of p)))) (header_back p profile)
    ∙ ap (λ (hs : List ProgramHeader). first_of (segment_checks (length (file_of p)) p.entry hs)) (headers_back p profile)
    ∙ written_pass (length (file_of p)) p profile (size_of p profile)

no_fault : (p : Program) → IsProfile p → first_fault (file_of p) ≡ None
unfolding first_fault
no_fault p profile =
    first_of-none (header_checks (file_of p)) (segment_checks (length (file_of p)) (file_header (file_of p)).e_entry (program_headers (file_of p))) (headers_pass p profile)
    ∙ segments_sound p profile

pub round_trip : RoundTrips
round_trip p profile = (no_fault p profile, same_program p profile)
