-- Each record ends before its half does.
use Rattle.std.specs.Prelude.{slice_index}
use Rattle.disk_model.specs.Held.{selected_half}
use Rattle.disk_model.proofs.Reading.{reads_bounds}
use Rattle.disk_model.proofs.laws.gates_lie_within.Goals as goal

pub returns : goal.returns
returns c disk gate files held = reads_bounds disk (selected_half (slice_index disk 0)) gate files held.reads
