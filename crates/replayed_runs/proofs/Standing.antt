-- Processes that stand at a call or a trap, or have ended.
use Rattle.std.proofs.Common.{arith, ◌≡◌, ◌∙◌, ◌<◌, ℕ, zero, suc, List, map, length, true, Option, Some, None, is_some, IsSomeAnd, refl, sym, ap, subst}
use Rattle.std.specs.Prelude.{unwrap_or}
use Rattle.std.proofs.lemmas.Bool.{false≢true}
use Rattle.std.proofs.lemmas.Option.{slice_get_past}
use Rattle.machine_model.specs.States.{State, stopped_at}
use Rattle.kernel_model.specs.Answers.{Kernel, now, process_of}
use Rattle.kernel_model.specs.Rows.{status_in}
use Rattle.kernel_model.specs.State.{SyncState, Process, process_at}
use Rattle.order_laws.specs.Outcomes.{StandsAt}
use Rattle.processes.specs.Parts.{Part, part_of, statuses_of}
use Rattle.replayed_runs.specs.Replays.{seen_of}
use Rattle.replayed_runs.proofs.Ended.{status_there}
use Rattle.replayed_runs.proofs.Replaying.{seen_sync}

one_state : (o : Option Process) (m : State) → IsSomeAnd o (λ process. m ≡ process.state) → (z : Process) → o ≡ Some z → m ≡ z.state
one_state None m is z at = absurd is
one_state (Some y) m is z at = is ∙ ap (λ (o : Option Process). (unwrap_or o y).state) at

-- where its machine does
pub stands_stopped : (k : Kernel) (p : ℕ) (m : State) → IsSomeAnd (process_of k p) (λ process. m ≡ process.state) → is_some (stopped_at m) ≡ true → StandsAt (seen_of k) p
stands_stopped k p m is stopped = λ z at _.
    let there : process_of k p ≡ Some z = ap (λ (s : SyncState). process_at s.processes p) (sym (seen_sync k)) ∙ at in
    subst (λ (n : State). is_some (stopped_at n) ≡ true) (one_state (process_of k p) m is z there) stopped

-- where it has ended
ended_status : (ps : List Process) (p : ℕ) (z : Process) → process_at ps p ≡ Some z → is_some (status_in (statuses_of (map part_of ps)) p) ≡ true → is_some z.status ≡ true
ended_status ps zero z at ended = absurd (false≢true ended)
ended_status ps (suc k) z at ended = sym (ap is_some (status_there ps k (Some z) at)) ∙ ended

pub stands_ended : (k : Kernel) (p : ℕ) (parts : List Part) → parts ≡ map part_of (now k).sync.processes → is_some (status_in (statuses_of parts) p) ≡ true → StandsAt (seen_of k) p
stands_ended k p parts are ended = λ z at lives.
    let there : process_of k p ≡ Some z = ap (λ (s : SyncState). process_at s.processes p) (sym (seen_sync k)) ∙ at in
    let status = ended_status (now k).sync.processes p z there (subst (λ (ps : List Part). is_some (status_in (statuses_of ps) p) ≡ true) are ended) in
    absurd (false≢true (sym lives ∙ status))

-- where there is none
pub stands_none : (k : Kernel) (p : ℕ) → process_of k p ≡ None → StandsAt (seen_of k) p
stands_none k p none = λ z at _.
    let there : process_of k p ≡ Some z = ap (λ (s : SyncState). process_at s.processes p) (sym (seen_sync k)) ∙ at in
    absurd (false≢true (sym (ap is_some none) ∙ ap is_some there))

none_past : (ps : List Process) (p : ℕ) → length ps < p → process_at ps p ≡ None
none_past ps zero past = refl
none_past ps (suc k) past = slice_get_past ps k (omega (arith, past))

pub stands_past : (k : Kernel) (p : ℕ) → length (now k).sync.processes < p → StandsAt (seen_of k) p
stands_past k p past = stands_none k p (none_past (now k).sync.processes p past)

pub stands_zero : (k : Kernel) → StandsAt (seen_of k) 0
stands_zero k = stands_none k 0 refl
