-- The files so far are copied.
use Rattle.std.proofs.Common.{◌≡◌, take}
use Rattle.files.proofs.list.FileList.try_clone.Given as goal

abbrev pub invariant-loop-file : goal.invariant-loop-file
invariant-loop-file l = l.files.items ≡ take l.file-index l.self-inside.files.items
