-- The bytes of a program that a file names.
use Rattle.std.specs.Prelude.{ℕ, ◌<◌, List, drop, All}
use Rattle.std.specs.List.{AllByRecursion}
use Rattle.std.proofs.lemmas.List.Elements.{All-from_recursion, recursion_from_All, All-take, All-drop, All-map}
use Rattle.image_model.specs.declared.header.ProgramHeader.{ProgramHeader}
use Rattle.machine_model.specs.declared.image.Segment.{Segment}
use Rattle.image_model.specs.Fields.{program_headers}
use Rattle.image_model.specs.Names.{segment_in, program_in}

-- each byte of a segment is below 256
abbrev HoldsBytes : Segment → Type 0
HoldsBytes s = AllByRecursion (λ b. b < 256) s.bytes

segment_bytes : (file : List ℕ) → AllByRecursion (λ b. b < 256) file → (h : ProgramHeader) → HoldsBytes (segment_in file h)
unfolding segment_in
segment_bytes file bytes h =
    recursion_from_All (λ (b : ℕ). b < 256) _
    (All-take (λ (b : ℕ). b < 256) h.p_filesz (drop h.p_offset file)
    (All-drop (λ (b : ℕ). b < 256) h.p_offset file (All-from_recursion (λ (b : ℕ). b < 256) file bytes)))

-- the segments that a file of bytes names hold bytes
pub program_bytes : (file : List ℕ) → AllByRecursion (λ b. b < 256) file → All (λ s. AllByRecursion (λ b. b < 256) s.bytes) (program_in file).segments
unfolding program_in
program_bytes file bytes = All-map HoldsBytes (segment_in file) (program_headers file) (λ k d within. segment_bytes file bytes _)
