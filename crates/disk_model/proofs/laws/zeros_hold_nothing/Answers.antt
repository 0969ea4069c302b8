-- On a disk of zeros the first half is selected, and its first gate is not open.
use Rattle.std.proofs.Common.{◌≡◌, ap, sym, subst, arith, false, Bool, []}
use Rattle.std.specs.Prelude.{slice_index}
use Rattle.disk_model.specs.Held.{Reads, selected_half}
use Rattle.disk_model.proofs.Reading.{reads_none}
use Rattle.disk_model.proofs.laws.zeros_hold_nothing.Goals as goal

pub returns : goal.returns
returns c disk size zero =
    let low : selected_half (slice_index disk 0) ≡ false = ap selected_half (zero 0) in record {
      size = size;
      reads = subst (λ (b : Bool). Reads disk b 64 []) (sym low) (reads_none disk false);
      closed = λ one. let z = zero 64 in omega arith;
    }
