-- The program of linked segments without a fault keeps the profile.
use Rattle.std.proofs.Common.{◌≡◌, ℕ, ◌%◌, Bool, true, false, cond, List, [], ◌∷◌, length, map, Option, Some, None, refl, arith}
use Rattle.std.specs.Prelude.{◌==◌, not, nat_lt, sum_by}
use Rattle.std.specs.List.{list_any, AllByRecursion, filter}
use Rattle.std.proofs.lemmas.Bool.{and_parts, not-true, ltb-false, eqb-false}
use Rattle.std.proofs.lemmas.List.Elements.{recursion_from_All, filter_passes}
use Rattle.image_model.specs.declared.header.ProgramHeader.{ProgramHeader}
use Rattle.machine_model.specs.Images.{IsProfile}
use Rattle.image_model.specs.Checks.{has_bad_flags, has_bad_size, is_past_end, page_count_of, is_out_of_range, has_overlap, is_code_at}
use Rattle.image_model.specs.Names.{segment_in}
use Rattle.elf32.specs.declared.link_fault.LinkFault.{LinkFault}
use Rattle.elf32.specs.declared.link_fault.LinkFault.TheVariants.{NoSegment, ManySegments, BadRights, BadSize, PastEnd, OutOfRange, SharedPage, ManyPages, OddEntry, EntryOutside}
use Rattle.elf32.specs.LinkChecks.{or_else, takes_memory, count_fault, each_fault, whole_fault, segments_fault}
use Rattle.elf32.proofs.Passing.{none_passes}
use Rattle.elf32.proofs.Profile.{Serves, profile_of}

-- a check passes, and so do those after it
peel : (b : Bool) (w : LinkFault) (rest : Option LinkFault) → cond b (Some w) rest ≡ None → (b ≡ false) × (rest ≡ None)
peel true w rest e = absurd cc
peel false w rest e = (refl, e)

-- neither of two faults is there
neither : (first later : Option LinkFault) → or_else first later ≡ None → (first ≡ None) × (later ≡ None)
neither None later e = (refl, e)
neither (Some w) later e = absurd cc

-- what is known of segments without a fault
pub record Passed (end entry : ℕ) (hs : List ProgramHeader) : Type 0 where
  pub some : (length hs == 0) ≡ false
  pub few : nat_lt 4 (length hs) ≡ false
  pub known : list_any has_bad_flags hs ≡ false
  pub sized : list_any has_bad_size hs ≡ false
  pub within : list_any (is_past_end end) hs ≡ false
  pub ranged : list_any is_out_of_range hs ≡ false
  pub apart : has_overlap hs ≡ false
  pub small : nat_lt 60 (sum_by page_count_of hs) ≡ false
  pub aligned : not (entry % 4 == 0) ≡ false
  pub code : not (list_any (is_code_at entry) hs) ≡ false

pub passed : (end entry : ℕ) (hs : List ProgramHeader) → segments_fault end entry hs ≡ None → Passed end entry hs
unfolding segments_fault count_fault each_fault whole_fault
passed end entry hs sound =
    let a = neither (count_fault hs) _ sound in
    let b = neither (each_fault end hs) (whole_fault entry hs) a.1 in
    let c1 = peel (length hs == 0) NoSegment _ a.0 in
    let c2 = peel (nat_lt 4 (length hs)) (ManySegments (length hs)) None c1.1 in
    let d1 = peel (list_any has_bad_flags hs) BadRights _ b.0 in
    let d2 = peel (list_any has_bad_size hs) BadSize _ d1.1 in
    let d3 = peel (list_any (is_past_end end) hs) PastEnd _ d2.1 in
    let d4 = peel (list_any is_out_of_range hs) OutOfRange None d3.1 in
    let e1 = peel (has_overlap hs) SharedPage _ b.1 in
    let e2 = peel (nat_lt 60 (sum_by page_count_of hs)) (ManyPages (sum_by page_count_of hs)) _ e1.1 in
    let e3 = peel (not (entry % 4 == 0)) OddEntry _ e2.1 in
    let e4 = peel (not (list_any (is_code_at entry) hs)) EntryOutside None e3.1 in
    record { some = c1.0; few = c2.0; known = d1.0; sized = d2.0; within = d3.0; ranged = d4.0; apart = e1.0; small = e2.0; aligned = e3.0; code = e4.0 }

all_serve : (hs : List ProgramHeader) → AllByRecursion (λ h. takes_memory h ≡ true) hs → AllByRecursion (λ h. has_bad_flags h ≡ false) hs → AllByRecursion Serves hs
unfolding takes_memory
all_serve [] takes known = tt
all_serve (h ∷ hs) takes known = ((known.0, not-true (h.p_memsz == 0) (and_parts (h.p_type == 1) (not (h.p_memsz == 0)) takes.0).1), all_serve hs takes.1 known.1)

-- the program of segments that take memory and have no fault keeps the profile
pub profile : (file : List ℕ) (end entry : ℕ) (hs : List ProgramHeader) → segments_fault end entry (filter takes_memory hs) ≡ None → IsProfile (record { entry = entry; segments = map (segment_in file) (filter takes_memory hs) })
profile file end entry all sound =
    let hs = filter takes_memory all in
    let c = passed end entry hs sound in
    let takes : AllByRecursion (λ h. takes_memory h ≡ true) hs = recursion_from_All (λ h. takes_memory h ≡ true) hs (filter_passes takes_memory all) in
    let some : length hs ≡ 0 → ⊥ = eqb-false (length hs) 0 c.some in
    profile_of file entry hs (record {
      some = omega (arith, some);
      few = ltb-false 4 (length hs) c.few;
      serve = all_serve hs takes (none_passes has_bad_flags hs c.known);
      sized = c.sized;
      ranged = c.ranged;
      apart = c.apart;
      small = c.small;
      aligned = c.aligned;
      code = c.code;
    })
