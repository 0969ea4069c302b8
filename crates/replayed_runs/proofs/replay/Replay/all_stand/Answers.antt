-- One more stands, and after the last there is none.
use Rattle.std.proofs.Common.{arith, ◌≡◌, ◌⊎◌, ◌<◌, ◌≤◌, ◌+◌, ℕ, inl, inr, length, refl, subst}
use Rattle.std.proofs.lemmas.Bool.{cases_lt}
use Rattle.kernel_model.specs.Answers.{Kernel, now}
use Rattle.order_laws.specs.Outcomes.{StandsAt}
use Rattle.replayed_runs.specs.Replays.{seen_of}
use Rattle.replayed_runs.proofs.Standing.{stands_past, stands_zero}
use Rattle.replayed_runs.proofs.replay.Replay.all_stand.Goals as goal

first : (k : Kernel) (p : ℕ) → p ≤ 0 → StandsAt (seen_of k) p
first k p is = subst (λ q. StandsAt (seen_of k) q) (let zero : 0 ≡ p = omega (arith, is) in zero) (stands_zero k)

one_more : (k : Kernel) (place : ℕ) → ((p : ℕ) → p ≤ place → StandsAt (seen_of k) p) → StandsAt (seen_of k) (place + 1) → (p : ℕ) → p ≤ place + 1 → StandsAt (seen_of k) p
one_more k place before here p is = by (cases_lt place p)
  where
    by : (place < p) ⊎ (p ≤ place) → StandsAt (seen_of k) p
    by (inl later) = subst (λ q. StandsAt (seen_of k) q) (let same : place + 1 ≡ p = omega (arith, later, is) in same) here
    by (inr earlier) = before p earlier

all : (k : Kernel) (place : ℕ) → ((p : ℕ) → p ≤ place → StandsAt (seen_of k) p) → length (now k).sync.processes ≤ place → (p : ℕ) → StandsAt (seen_of k) p
all k place before last p = by (cases_lt place p)
  where
    by : (place < p) ⊎ (p ≤ place) → StandsAt (seen_of k) p
    by (inl later) = stands_past k p (omega (arith, later, last))
    by (inr earlier) = before p earlier

pub loop-place-init : goal.loop-place-init
loop-place-init c = record { stand = first c.args.self.now.core }

pub loop-place-preserved : goal.loop-place-preserved
loop-place-preserved c = record {
  stand = one_more c.args.self.now.core c.loop-place.place c.loop-place.invariant.stand (c.if-not-stands.ensures refl);
}

pub returns : goal.returns
returns c = λ _.
    let last = c.last_process-place-end.ensures in
    let past = c.loop-place-test.false in
    all c.args.self.now.core c.loop-place.place c.loop-place.invariant.stand (omega (arith, last, past))
