-- The bytes before the offset are written, each 1,024 of them by one change.
use Rattle.std.proofs.Common.{◌≡◌, ◌+◌, ◌*◌, ◌-◌, ◌≤◌, List, length, take}
use Rattle.std.specs.Prelude.{slice_get}
use Rattle.disk_model.specs.declared.change.NamedFile.{NamedFile}
use Rattle.disk_model.specs.Files.{with_bytes}
use Rattle.disk_files.specs.Putting.{Makes}
use Rattle.disk_files.proofs.edit.write.Given as goal

abbrev pub invariant-loop-offset : goal.invariant-loop-offset
invariant-loop-offset l = record {
  makes : (first : List NamedFile) → Makes first l.fn.files l.fn.changes.items → Makes first l.files l.changes.items;
  written : l.files ≡ with_bytes l.fn.files l.file (slice_get l.fn.files l.file) (λ _. take l.offset l.bytes);
  counted : 1024 * length l.changes.items ≡ 1024 * length l.fn.changes.items + l.offset;
  within : l.offset ≤ 16384;
}

abbrev pub decreases-loop-offset : goal.decreases-loop-offset
decreases-loop-offset l = length l.bytes - l.offset
