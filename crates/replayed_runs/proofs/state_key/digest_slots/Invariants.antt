-- Those before this place were digested.
use Rattle.std.proofs.Common.{slice_get}
use Rattle.state_search.specs.Digests.{Fed}
use Rattle.replayed_runs.specs.StateKeys.{slot_bytes_at, upto_bytes}
use Rattle.replayed_runs.proofs.state_key.digest_slots.Given as goal

abbrev pub invariant-loop-place : goal.invariant-loop-place
invariant-loop-place l = Fed l.fn.digest (upto_bytes (λ k. slot_bytes_at (slice_get l.slots k)) l.place) l.digest
