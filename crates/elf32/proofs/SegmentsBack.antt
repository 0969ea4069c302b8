-- Segments that were written are named again.
use Rattle.std.proofs.Common.{◌≡◌, ℕ, zero, ◌-◌, Bool, true, false, List, [], ◌∷◌, ◌++◌, length, map, take, drop, replicate, refl, sym, ap, ◌∙◌, arith}
use Rattle.std.specs.Prelude.{◌==◌, not, bit_and}
use Rattle.std.proofs.lemmas.List.{append_assoc, length-append, length-replicate, take_at, drop_at}
use Rattle.memory_model.specs.declared.access.Rights.{Rights}
use Rattle.machine_model.specs.declared.image.Segment.{Segment}
use Rattle.image_model.specs.Checks.{may_read, may_write, may_execute}
use Rattle.image_model.specs.Names.{segment_in}
use Rattle.elf32.specs.Files.{flags_of, offset_after, end_after, contents_after}
use Rattle.elf32.proofs.Written.{offset_above}
use Rattle.elf32.proofs.FieldsBack.{program_header_for, headers_for}

-- rights of each kind
abbrev pub rights_of : Bool → Bool → Bool → Rights
rights_of read write execute = record { read = read; write = write; execute = execute }

-- rights have a flag
abbrev pub has_flag : Rights → ℕ → Bool
has_flag r flag = not (bit_and (flags_of r) flag == 0)

-- flags say the rights that they were made of
pub flags_back : (r w x : Bool) → rights_of (has_flag (rights_of r w x) 4) (has_flag (rights_of r w x) 2) (has_flag (rights_of r w x) 1) ≡ rights_of r w x
flags_back true true true = refl
flags_back true true false = refl
flags_back true false true = refl
flags_back true false false = refl
flags_back false true true = refl
flags_back false true false = refl
flags_back false false true = refl
flags_back false false false = refl

abbrev segment_of : ℕ → ℕ → Rights → List ℕ → Segment
segment_of vaddr memsz rights bytes = record { vaddr = vaddr; memsz = memsz; rights = rights; bytes = bytes }

pub segment_back : (file : List ℕ) (offset : ℕ) (s : Segment) (rest : List ℕ) → drop offset file ≡ s.bytes ++ rest → segment_in file (program_header_for offset s) ≡ s
unfolding segment_in may_read may_write may_execute
segment_back file offset s rest at =
    ap (λ (r : Rights). segment_of s.vaddr s.memsz r (take (length s.bytes) (drop offset file))) (flags_back s.rights.read s.rights.write s.rights.execute)
    ∙ ap (λ (bytes : List ℕ). segment_of s.vaddr s.memsz s.rights bytes) (ap (take (length s.bytes)) at ∙ take_at s.bytes rest (length s.bytes) refl)

pub segments_back : (prefix : List ℕ) (end : ℕ) (ss : List Segment) → length prefix ≡ end → map (segment_in (prefix ++ contents_after end ss)) (headers_for end ss) ≡ ss
segments_back prefix end [] at = refl
segments_back prefix end (s ∷ ss) at =
    ap (λ (first : Segment). first ∷ map (segment_in file) (headers_for (end_after end s) ss)) (segment_back file (offset_after end s) s rest after)
    ∙ ap (λ (others : List Segment). s ∷ others)
    (ap (λ (bytes : List ℕ). map (segment_in bytes) (headers_for (end_after end s) ss)) again ∙ segments_back ((prefix ++ zeros) ++ s.bytes) (end_after end s) ss ends)
  where
    zeros : List ℕ
    zeros = replicate (offset_after end s - end) 0

    rest : List ℕ
    rest = contents_after (end_after end s) ss

    file : List ℕ
    file = prefix ++ (zeros ++ (s.bytes ++ rest))

    begins : length (prefix ++ zeros) ≡ offset_after end s
    begins = omega (arith, at, offset_above end s, length-append prefix zeros, length-replicate (offset_after end s - end) (zero))

    ends : length ((prefix ++ zeros) ++ s.bytes) ≡ end_after end s
    ends = omega (arith, begins, length-append (prefix ++ zeros) s.bytes)

    parted : file ≡ (prefix ++ zeros) ++ (s.bytes ++ rest)
    parted = sym (append_assoc prefix zeros (s.bytes ++ rest))

    again : file ≡ ((prefix ++ zeros) ++ s.bytes) ++ rest
    again = parted ∙ sym (append_assoc (prefix ++ zeros) s.bytes rest)

    after : drop (offset_after end s) file ≡ s.bytes ++ rest
    after = ap (drop (offset_after end s)) parted ∙ drop_at (prefix ++ zeros) (s.bytes ++ rest) (offset_after end s) begins
