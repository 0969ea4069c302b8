-- At most one column for each number so far.
use Rattle.std.proofs.Common.{◌≤◌, vec_len}
use Rattle.pictures.proofs.columns.terminals_of.Given as goal

abbrev pub invariant-loop-number : goal.invariant-loop-number
invariant-loop-number l = vec_len l.terminals ≤ l.number
