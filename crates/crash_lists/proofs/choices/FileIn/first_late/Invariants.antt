-- The first moment is past each emptying so far, and not before the file was made.
use Rattle.std.proofs.Common.{◌<◌, ◌≤◌, ℕ}
use Rattle.crash_lists.specs.Rules.{Empties}
use Rattle.crash_lists.proofs.choices.FileIn.first_late.Given as goal

abbrev pub invariant-loop-change : goal.invariant-loop-change
invariant-loop-change l = record {
  made : l.initial.first ≤ l.first;
  emptied : (u : ℕ) → u < l.change → Empties l.self.window.now.moments.items u l.self.number → u < l.first;
}
