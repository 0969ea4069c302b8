-- One more has ended.
use Rattle.std.proofs.Common.{arith, ◌≡◌, ◌∙◌, ◌⊎◌, ◌<◌, ◌≤◌, ◌-◌, ℕ, false, length, ap, inl, inr, subst, sym}
use Rattle.std.proofs.lemmas.Bool.{cases_lt}
use Rattle.kernel_model.specs.State.{SyncState}
use Rattle.kernel_model.specs.declared.event.Event.TheVariants.{Enter}
use Rattle.order_laws.specs.Moves.{Seen, label_in, writes_some}
use Rattle.replayed_runs.specs.Replays.{seen_of}
use Rattle.replayed_runs.proofs.Ended.{past_idle}
use Rattle.replayed_runs.proofs.Replaying.{seen_sync}
use Rattle.replayed_runs.proofs.replay.Replay.last_alive.Goals as goal

one_fewer : (s : Seen) (last : ℕ) → writes_some (label_in s (Enter last)) ≡ false → ((p : ℕ) → last < p → writes_some (label_in s (Enter p)) ≡ false)
    → (p : ℕ) → last - 1 < p → writes_some (label_in s (Enter p)) ≡ false
one_fewer s last here after p past = by (cases_lt last p)
  where
    by : (last < p) ⊎ (p ≤ last) → writes_some (label_in s (Enter p)) ≡ false
    by (inl later) = after p later
    by (inr same) = subst (λ q. writes_some (label_in s (Enter q)) ≡ false) (let is : last ≡ p = omega (arith, past, same) in is) here

pub loop-last-init : goal.loop-last-init
loop-last-init c =
    let k = c.args.self.now.core in
    let last : c.last_process-last.result ≡ length (seen_of k).sync.processes = c.last_process-last.ensures ∙ sym (ap (λ (u : SyncState). length u.processes) (seen_sync k)) in
    record {
      within = omega (arith, last);
      idle = λ p past. past_idle k p (omega (arith, last, past));
    }

pub loop-last-preserved : goal.loop-last-preserved
loop-last-preserved c =
    let k = c.args.self.now.core in
    record {
      within = let before = c.loop-last.invariant.within in omega (arith, before);
      idle = one_fewer (seen_of k) c.loop-last.last (c.has_ended.ensures.idle c.loop-last-test.true) c.loop-last.invariant.idle;
    }
