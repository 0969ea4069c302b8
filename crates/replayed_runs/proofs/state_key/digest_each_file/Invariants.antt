-- Those before this place were digested.
use Rattle.state_search.specs.Digests.{Fed}
use Rattle.replayed_runs.specs.StateKeys.{file_bytes, upto_bytes}
use Rattle.replayed_runs.proofs.state_key.digest_each_file.Given as goal

abbrev pub invariant-loop-place : goal.invariant-loop-place
invariant-loop-place l = Fed l.fn.digest (upto_bytes (file_bytes l.files) l.place) l.digest
