-- Each cell so far has its moment.
use Rattle.std.proofs.Common.{◌≡◌, ◌<◌, ℕ, get_or}
use Rattle.std.specs.Prelude.{vec_len}
use Rattle.crash_lists.specs.Rules.{IsCellAt}
use Rattle.crash_lists.proofs.moments.FileNear.moments_of_cells.Given as goal

abbrev pub invariant-loop-cell : goal.invariant-loop-cell
invariant-loop-cell l = record {
  count : vec_len l.cells ≡ l.cell;
  each : (k : ℕ) → k < l.cell → IsCellAt l.self.file.model l.self.file.window.now.moments.items l.self.file.number l.size l.bytes k (get_or l.cells.items k 0);
}
