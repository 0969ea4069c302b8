-- A place that recovery reads is outside the ranges of the writes.
use Rattle.std.proofs.Common.{◌≤◌, ◌∙◌, sym, arith}
use Rattle.std.specs.Prelude.{slice_index}
use Rattle.disk_model.specs.Held.{selected_half, start_of}
use Rattle.disk_model.proofs.Reading.{reads_bounds}
use Rattle.crash_points.proofs.Alike.{held_alike}
use Rattle.crash_points.proofs.laws.crashes_elsewhere_leave_the_files.Goals as goal

pub returns : goal.returns
returns c v left gate files held crash apart =
    let low : start_of (selected_half (slice_index v.disk 0)) ≤ gate = (reads_bounds v.disk (selected_half (slice_index v.disk 0)) gate files held.reads).0 in
    held_alike v.disk left gate files held (record {
      size = crash.size;
      selected = crash.same 0 (λ there. omega (arith, (apart 0 there).0));
      records = λ place ge lt. crash.same place (λ there. omega (arith, (apart place there).1 ge));
      closed = λ one. held.closed (sym (crash.same gate (λ there. omega (arith, (apart gate there).1 low))) ∙ one);
    })
