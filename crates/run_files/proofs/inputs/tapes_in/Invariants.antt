-- A tape for each of the paths so far.
use Rattle.std.proofs.Common.{◌≡◌, length}
use Rattle.run_files.proofs.inputs.tapes_in.Given as goal

abbrev pub invariant-loop-path : goal.invariant-loop-path
invariant-loop-path g l = length l.tapes.items ≡ l.path-index
