-- What is read of the selected half is what the disk holds.
use Rattle.std.proofs.Common.{◌≡◌, ℕ, ◌-◌, ◌<◌, ◌≤◌, Bool, List, [], length, take, drop, Ok, None, sym, ap, subst, ◌∙◌, arith}
use Rattle.std.specs.Prelude.{slice_index}
use Rattle.disk_model.specs.declared.change.NamedFile.{NamedFile}
use Rattle.disk_model.specs.Held.{IsHeldTo, selected_half, start_of, end_of}
use Rattle.journal.specs.declared.fault.DiskFault.{DiskFault}
use Rattle.journal.specs.declared.fault.DiskFault.TheVariants.{OutOfMemory}
use Rattle.journal.specs.Reading.{records_at, opened, selected, Fails}
use Rattle.journal.specs.Faults.{TellsFault}
use Rattle.journal.proofs.Found.{IsBytes, ok_is}
use Rattle.journal.proofs.Gates.{is_shut}
use Rattle.journal.proofs.FoundAll.{recovered_held, held_recovered, only_memory, half_shut}
use Rattle.journal.proofs.Faulty.{tells}

-- these bytes are the selected half, which ends there
pub record IsHalf (d : List ℕ) (end : ℕ) (half : List ℕ) : Type 0 where
  pub whole : half ≡ selected d
  pub last : end ≡ end_of (selected_half (slice_index d 0))

pub is_half : (d : List ℕ) (b : Bool) (start end : ℕ) (half : List ℕ) → b ≡ selected_half (slice_index d 0) → start ≡ start_of b → end ≡ end_of b → half ≡ drop start (take end d) → IsHalf d end half
is_half d b start end half eb es ee eh = record {
  whole = eh ∙ ap (λ (k : ℕ). drop k (take end d)) (es ∙ ap start_of eb) ∙ ap (λ (k : ℕ). drop (start_of (selected_half (slice_index d 0))) (take k d)) (ee ∙ ap end_of eb);
  last = ee ∙ ap end_of eb;
}

-- the files are held up to the gate that begins what is left
pub record HeldAt (d : List ℕ) (end : ℕ) (files : List NamedFile) (rest : List ℕ) : Type 0 where
  pub short : length rest ≤ end
  pub held : IsHeldTo d (end - length rest) files
  pub from : start_of (selected_half (slice_index d 0)) ≤ end - length rest
  pub within : end - length rest < end_of (selected_half (slice_index d 0))

pub held_at : (d : List ℕ) (end : ℕ) (half : List ℕ) (files : List NamedFile) (rest : List ℕ) → IsBytes d → length d ≡ 2097152 → IsHalf d end half → records_at (length half) [] half ≡ Ok (files, rest) → HeldAt d end files rest
held_at d end half files rest fits size i e =
    let h = recovered_held d (files, rest) fits size (ap (λ (l : List ℕ). records_at (length l) [] l) (sym i.whole) ∙ e) in
    let last = i.last in let some = h.some in let short = h.short in let from = h.from in
    record {
      short = omega arith;
      held = subst (λ (k : ℕ). IsHeldTo d (k - length rest) files) (sym i.last) h.held;
      from = omega arith;
      within = omega arith;
    }

pub only_in : (d : List ℕ) (end : ℕ) (half : List ℕ) (e : DiskFault) (gate : ℕ) (files : List NamedFile) → IsHalf d end half → IsHeldTo d gate files → Fails e (records_at (length half) [] half) → e ≡ OutOfMemory
only_in d end half e gate files i h f =
    only_memory e (records_at (length half) [] half) _ (ap (λ (l : List ℕ). records_at (length l) [] l) i.whole ∙ held_recovered d gate files h) f

pub tells_in : (d : List ℕ) (end : ℕ) (half : List ℕ) (e : DiskFault) → IsBytes d → length d ≡ 2097152 → IsHalf d end half → Fails e (records_at (length half) [] half) → TellsFault d e
tells_in d end half e fits size i f = tells d e fits size (subst (λ (l : List ℕ). Fails e (records_at (length l) [] l)) i.whole f)

pub shut_in : (d : List ℕ) (end : ℕ) (half : List ℕ) → length d ≡ 2097152 → IsHalf d end half → (slice_index d (start_of (selected_half (slice_index d 0))) ≡ 1 → ⊥) → opened half ≡ None
shut_in d end half size i shut = ap opened i.whole ∙ half_shut d size shut

pub none_in : (d : List ℕ) (end : ℕ) (half : List ℕ) (files : List NamedFile) (rest : List ℕ) → length d ≡ 2097152 → IsHalf d end half → (slice_index d (start_of (selected_half (slice_index d 0))) ≡ 1 → ⊥)
    → records_at (length half) [] half ≡ Ok (files, rest) → files ≡ []
none_in d end half files rest size i shut e =
    ap (λ (x : List NamedFile × List ℕ). x.0) (ok_is (files, rest) ([], half) (is_shut (length half) [] half (Ok (files, rest)) (shut_in d end half size i shut) e))
