-- A completion and a submission, one after the other.
use Rattle.disk_model.proofs.Between.{only_completed, prefix_submitted}
use Rattle.disk_model.proofs.laws.moves_leave_no_other_disks.Goals as goal

pub returns : goal.returns
returns c = record { completion = only_completed; submission = prefix_submitted }
