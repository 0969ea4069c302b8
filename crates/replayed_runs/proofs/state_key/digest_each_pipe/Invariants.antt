-- Those before this place were digested.
use Rattle.std.proofs.Common.{slice_get}
use Rattle.state_search.specs.Digests.{Fed}
use Rattle.replayed_runs.specs.StateKeys.{pipe_bytes, upto_bytes, written_in}
use Rattle.replayed_runs.proofs.state_key.digest_each_pipe.Given as goal

abbrev pub invariant-loop-number : goal.invariant-loop-number
invariant-loop-number l = Fed l.fn.digest (upto_bytes (λ k. pipe_bytes (slice_get l.pipes k) (written_in l.texts.texts.items k)) l.number) l.digest
