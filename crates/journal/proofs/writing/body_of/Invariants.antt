-- The changes before this one have been spelled, and the others are formed.
use Rattle.std.proofs.Common.{◌≡◌, ◌++◌, drop}
use Rattle.std.specs.List.{AllByRecursion}
use Rattle.disk_model.specs.Files.{IsFormed}
use Rattle.disk_model.specs.Spelling.{body_of}
use Rattle.journal.proofs.writing.body_of.Given as goal

abbrev pub invariant-loop-change : goal.invariant-loop-change
invariant-loop-change l = record {
  text : l.out.items ++ body_of (drop l.change-index l.changes) ≡ body_of l.changes;
  formed : AllByRecursion IsFormed (drop l.change-index l.changes);
}
