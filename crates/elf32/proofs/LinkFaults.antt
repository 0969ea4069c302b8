-- A linked file's first fault, in three steps.
use Rattle.std.proofs.Common.{◌≡◌, ℕ, ◌-◌, false, List, length, map, take, drop, Option, Some, None, refl, sym, ap, subst, ◌∙◌, inl, inr}
use Rattle.std.specs.List.{list_any, filter}
use Rattle.std.proofs.lemmas.List.{take_rest}
use Rattle.image_model.specs.declared.header.FileHeader.{FileHeader}
use Rattle.image_model.specs.declared.header.ProgramHeader.{ProgramHeader}
use Rattle.image_model.specs.Fields.{file_header, headers_in}
use Rattle.image_model.specs.Checks.{is_past_end}
use Rattle.image_model.specs.Names.{segment_in}
use Rattle.machine_model.specs.declared.image.Segment.{Segment}
use Rattle.machine_model.specs.Images.{Program, IsProfile}
use Rattle.elf32.specs.declared.link_fault.LinkFault.{LinkFault}
use Rattle.elf32.specs.declared.link_fault.LinkFault.TheVariants.{OutOfMemory}
use Rattle.elf32.specs.LinkChecks.{or_else, takes_memory, table_of, loaded_of, header_fault, kinds_fault, segments_fault, first_fault}
use Rattle.elf32.specs.LinkedPrograms.{linked_program, IsLinked, IsRefused}
use Rattle.elf32.proofs.LinkProfile.{passed, profile}

or_first : (a b : Option LinkFault) (w : LinkFault) → Some w ≡ a → or_else a b ≡ Some w
or_first a b w e = rw (← e) refl

or_later : (a b : Option LinkFault) → None ≡ a → or_else a b ≡ b
or_later a b e = rw (← e) refl

pub header_refused : (file : List ℕ) (why : LinkFault) → Some why ≡ header_fault file → IsRefused file why
unfolding first_fault
header_refused file why e = inl (or_first (header_fault file) _ why e)

pub kinds_refused : (file : List ℕ) (table : List ProgramHeader) (why : LinkFault) → None ≡ header_fault file → table ≡ table_of file → Some why ≡ kinds_fault table → IsRefused file why
unfolding first_fault
kinds_refused file table why e is f = inl (or_later (header_fault file) _ e ∙ or_first (kinds_fault (table_of file)) _ why (f ∙ ap kinds_fault is))

-- the program headers that were read are the file's
pub is_table : (file : List ℕ) (h : FileHeader) (table : List ProgramHeader) → h ≡ file_header file → table ≡ headers_in h.e_phnum (take (length file - h.e_phoff) (drop h.e_phoff file)) → table ≡ table_of file
unfolding table_of
is_table file h table is are =
    are ∙ ap (headers_in h.e_phnum) (take_rest file h.e_phoff)
    ∙ ap (λ (x : FileHeader). headers_in x.e_phnum (drop x.e_phoff file)) is

-- what was read of a file: its header, its program headers, and those of segments that take memory
pub record IsRead (file : List ℕ) (h : FileHeader) (table loaded : List ProgramHeader) : Type 0 where
  pub header : h ≡ file_header file
  pub headers : table ≡ table_of file
  pub taken : loaded ≡ filter takes_memory table

loaded_is : (file : List ℕ) (h : FileHeader) (table loaded : List ProgramHeader) → IsRead file h table loaded → loaded ≡ loaded_of file
loaded_is file h table loaded read = read.taken ∙ ap (filter takes_memory) read.headers

same_checks : (file : List ℕ) (h : FileHeader) (table loaded : List ProgramHeader) → IsRead file h table loaded
    → segments_fault (length file) h.e_entry loaded ≡ segments_fault (length file) (file_header file).e_entry (loaded_of file)
same_checks file h table loaded read =
    ap (λ (x : FileHeader). segments_fault (length file) x.e_entry loaded) read.header
    ∙ ap (λ (hs : List ProgramHeader). segments_fault (length file) (file_header file).e_entry hs) (loaded_is file h table loaded read)

first_is : (file : List ℕ) (h : FileHeader) (table loaded : List ProgramHeader) → IsRead file h table loaded → None ≡ header_fault file → None ≡ kinds_fault table
    → first_fault file ≡ segments_fault (length file) h.e_entry loaded
unfolding first_fault
first_is file h table loaded read e f =
    or_later (header_fault file) _ e ∙ or_later (kinds_fault (table_of file)) _ (f ∙ ap kinds_fault read.headers) ∙ sym (same_checks file h table loaded read)

pub segments_refused : (file : List ℕ) (h : FileHeader) (table loaded : List ProgramHeader) (why : LinkFault) → IsRead file h table loaded → None ≡ header_fault file → None ≡ kinds_fault table
    → Some why ≡ segments_fault (length file) h.e_entry loaded → IsRefused file why
segments_refused file h table loaded why read e f g = inl (first_is file h table loaded read e f ∙ sym g)

pub memory_refused : (file : List ℕ) (why : LinkFault) → why ≡ OutOfMemory → IsRefused file why
memory_refused file why is = inr is

-- no segment's bytes pass the end
pub none_past_end : (end entry : ℕ) (hs : List ProgramHeader) → None ≡ segments_fault end entry hs → list_any (is_past_end end) hs ≡ false
none_past_end end entry hs e = (passed end entry hs (sym e)).within

-- the program of what was read keeps the profile
pub is_profile : (file : List ℕ) (h : FileHeader) (table loaded : List ProgramHeader) (segments : List Segment) → IsRead file h table loaded
    → None ≡ segments_fault (length file) h.e_entry loaded → segments ≡ map (segment_in file) loaded → IsProfile (record { entry = h.e_entry; segments = segments })
is_profile file h table loaded segments read sound are =
    subst (λ (ss : List Segment). IsProfile (record { entry = h.e_entry; segments = ss })) (sym (are ∙ ap (map (segment_in file)) read.taken))
    (profile file (length file) h.e_entry table (ap (λ (hs : List ProgramHeader). segments_fault (length file) h.e_entry hs) (sym read.taken) ∙ sym sound))

-- the program of what was read is the one that the file names
pub is_linked : (file : List ℕ) (h : FileHeader) (table loaded : List ProgramHeader) (segments : List Segment) (program : Program) → IsRead file h table loaded → None ≡ header_fault file → None ≡ kinds_fault table
    → None ≡ segments_fault (length file) h.e_entry loaded → segments ≡ map (segment_in file) loaded → program ≡ record { entry = h.e_entry; segments = segments } → IsLinked file program
unfolding linked_program
is_linked file h table loaded segments program read e f sound are is = record {
  sound = first_is file h table loaded read e f ∙ sym sound;
  named = is
      ∙ ap (λ (ss : List Segment). record { entry = h.e_entry; segments = ss }) (are ∙ ap (map (segment_in file)) (loaded_is file h table loaded read))
      ∙ ap (λ (x : FileHeader). record { entry = x.e_entry; segments = map (segment_in file) (loaded_of file) }) read.header;
}
