-- Those before this place were digested.
use Rattle.state_search.specs.Digests.{Fed, option_bytes}
use Rattle.replayed_runs.specs.StateKeys.{left_on, upto_bytes}
use Rattle.replayed_runs.proofs.state_key.digest_tapes.Given as goal

abbrev pub invariant-loop-tape : goal.invariant-loop-tape
invariant-loop-tape l = Fed l.fn.digest (upto_bytes (λ k. option_bytes (left_on l.most l.tapes k)) l.tape) l.digest
