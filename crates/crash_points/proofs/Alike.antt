-- Disks that are the same where recovery reads.
use Rattle.std.proofs.Common.{◌≡◌, ◌∙◌, ℕ, List, Bool, ap, sym, subst}
use Rattle.std.specs.Prelude.{slice_index}
use Rattle.disk_model.specs.declared.change.NamedFile.{NamedFile}
use Rattle.disk_model.specs.Held.{IsHeldTo, Reads, selected_half}
use Rattle.disk_model.proofs.Reading.{reads_frame}
use Rattle.crash_points.specs.Readings.{AreReadAlike}

-- the half is the same, and so are its records
pub held_alike : (disk other : List ℕ) (gate : ℕ) (files : List NamedFile) → IsHeldTo disk gate files → AreReadAlike disk other gate → IsHeldTo other gate files
held_alike disk other gate files held same =
    let half : selected_half (slice_index disk 0) ≡ selected_half (slice_index other 0) = ap selected_half (sym same.selected) in record {
      size = same.size ∙ held.size;
      reads = subst (λ (b : Bool). Reads other b gate files) half
          (reads_frame disk other (selected_half (slice_index disk 0)) gate files same.records held.reads);
      closed = same.closed;
    }
