-- Processes that make no call any more.
use Rattle.std.proofs.Common.{arith, ◌≡◌, ◌∙◌, ◌<◌, ℕ, zero, suc, List, map, length, slice_get, Bool, true, false, Option, Some, None, is_some, refl, sym, ap, subst}
use Rattle.std.specs.Prelude.{if◌then◌else◌, option_map, unwrap_or}
use Rattle.std.proofs.lemmas.Bool.{false≢true}
use Rattle.std.proofs.lemmas.Option.{slice_get-map}
use Rattle.machine_model.specs.States.{stopped_at}
use Rattle.kernel_model.specs.Answers.{Kernel, now}
use Rattle.kernel_model.specs.Rows.{status_in}
use Rattle.kernel_model.specs.State.{SyncState, Process, shared}
use Rattle.kernel_model.specs.Steps.{after_effect_if, after_enter, effect_at, impossible, step}
use Rattle.kernel_model.specs.declared.event.Event.TheVariants.{Enter}
use Rattle.order_laws.specs.Moves.{label_in, label_of, writes_some}
use Rattle.processes.specs.Parts.{Part, part_of, statuses_of}
use Rattle.replayed_runs.specs.Replays.{seen_of}
use Rattle.replayed_runs.proofs.Owning.{works_there}
use Rattle.replayed_runs.proofs.Replaying.{seen_sync}

-- only a process has ended
pub ended_there : (parts : List Part) (p : ℕ) → is_some (status_in (statuses_of parts) p) ≡ true → 0 < p
ended_there parts zero ended = absurd (false≢true ended)
ended_there parts (suc k) ended = omega arith

pub status_there : (ps : List Process) (k : ℕ) (o : Option Process) → slice_get ps k ≡ o
    → status_in (statuses_of (map part_of ps)) (suc k) ≡ unwrap_or (option_map (λ (part : Part). part.status) (option_map part_of o)) None
status_there ps k o at =
    ap (λ (x : Option (Option ℕ)). unwrap_or x None)
    (slice_get-map (λ (part : Part). part.status) (map part_of ps) k
    ∙ ap (option_map (λ (part : Part). part.status)) (slice_get-map part_of ps k ∙ ap (option_map part_of) at))

-- and it makes no call
ended_at : (s : SyncState) (p : ℕ) → is_some (status_in (statuses_of (map part_of s.processes)) p) ≡ true → writes_some (label_of (step s (Enter p)).entry) ≡ false
ended_at s zero ended = refl
ended_at s (suc k) ended = by (slice_get s.processes k) refl
  where
    by : (o : Option Process) → slice_get s.processes k ≡ o → writes_some (label_of (after_enter s (suc k) o).entry) ≡ false
    by None at = refl
    by (Some z) at =
        ap (λ (b : Bool). writes_some (label_of (if b then impossible (suc k) s else after_effect_if s (suc k) z (effect_at (shared s) (suc k) z (stopped_at z.state))).entry))
        (sym (ap is_some (status_there s.processes k (Some z) at)) ∙ ended)

pub ended_idle : (k : Kernel) (p : ℕ) (parts : List Part) → parts ≡ map part_of (now k).sync.processes → is_some (status_in (statuses_of parts) p) ≡ true
    → writes_some (label_in (seen_of k) (Enter p)) ≡ false
ended_idle k p parts are ended =
    subst (λ (s : SyncState). writes_some (label_of (step s (Enter p)).entry) ≡ false) (sym (seen_sync k))
    (ended_at (now k).sync p (subst (λ (ps : List Part). is_some (status_in (statuses_of ps) p) ≡ true) are ended))

-- nor does one past the last
pub past_idle : (k : Kernel) (p : ℕ) → length (seen_of k).sync.processes < p → writes_some (label_in (seen_of k) (Enter p)) ≡ false
past_idle k p past = by (writes_some (label_in (seen_of k) (Enter p))) refl
  where
    by : (b : Bool) → writes_some (label_in (seen_of k) (Enter p)) ≡ b → b ≡ false
    by false is = refl
    by true is = let there = works_there (seen_of k).sync p is in absurd (let no : ⊥ = omega (arith, there, past) in no)
