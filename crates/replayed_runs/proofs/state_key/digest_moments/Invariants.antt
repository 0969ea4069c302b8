-- Something was digested.
use Rattle.std.proofs.Common.{ℕ, List}
use Rattle.state_search.specs.Digests.{Fed}
use Rattle.replayed_runs.proofs.state_key.digest_moments.Given as goal

abbrev pub invariant-loop-moment : goal.invariant-loop-moment
invariant-loop-moment l = (more : List ℕ) × Fed l.initial.digest more l.digest
