-- The changes of the files before this one and those of the others are all changes.
use Rattle.std.proofs.Common.{◌≡◌, ◌++◌, drop}
use Rattle.disk_model.specs.Rebuild.{rebuild, rebuild_from}
use Rattle.journal.proofs.rebuilding.rebuild.Given as goal

abbrev pub invariant-loop-place : goal.invariant-loop-place
invariant-loop-place l = l.changes.items ++ rebuild_from l.place (drop l.place l.files.living) ≡ rebuild l.files.living
