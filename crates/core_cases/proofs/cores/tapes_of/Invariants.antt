-- A tape for each of those so far.
use Rattle.std.proofs.Common.{◌≡◌, length}
use Rattle.core_cases.proofs.cores.tapes_of.Given as goal

abbrev pub invariant-loop-tape : goal.invariant-loop-tape
invariant-loop-tape l = length l.booted.items ≡ l.tape-index
