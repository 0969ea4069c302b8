-- Those before this place were digested.
use Rattle.std.proofs.Common.{slice_get}
use Rattle.state_search.specs.Digests.{Fed}
use Rattle.replayed_runs.specs.StateKeys.{number_bytes_at, upto_bytes}
use Rattle.replayed_runs.proofs.state_key.digest_numbers.Given as goal

abbrev pub invariant-loop-place : goal.invariant-loop-place
invariant-loop-place l = Fed l.fn.digest (upto_bytes (λ k. number_bytes_at (slice_get l.numbers k)) l.place) l.digest
