-- Of all events a fork alone makes a process, which is the next by number.
use Rattle.std.proofs.Common.{◌≡◌, ℕ, ◌≤◌, false, length, Option, Some, None, refl, arith}
use Rattle.std.proofs.lemmas.Bool.{ne_eqb}
use Rattle.kernel_model.specs.Rows.{CallEffect}
use Rattle.kernel_model.specs.Shown.{is_made}
use Rattle.kernel_model.specs.State.{SyncState, Process, process_at}
use Rattle.kernel_model.specs.Steps.{Transition, after_effect, step}
use Rattle.kernel_model.specs.declared.event.Event.{Event}
use Rattle.kernel_model.specs.declared.request.Verdict.{Verdict}
use Rattle.kernel_model.specs.declared.request.Verdict.TheVariants.{Waits, Replies, Ends}
use Rattle.kernel_model.proofs.Transitions.{call_of, of_step}
use Rattle.kernel_model.proofs.ChildRows.{IsNoneOrNextProcess, call_next}
use Rattle.kernel_model.proofs.Limits.{at_below}

effect_next : (s : SyncState) (q : ℕ) (y : Process) (e : CallEffect) (v : Verdict) → IsNoneOrNextProcess (length s.processes) e.child
    → IsNoneOrNextProcess (length s.processes) (after_effect s q y e v).entry.child
effect_next s q y e Waits next = tt
effect_next s q y e (Replies r) next = next
effect_next s q y e (Ends status) next = tt

step_next : (s : SyncState) (e : Event) → IsNoneOrNextProcess (length s.processes) (step s e).entry.child
step_next s e = of_step (λ (t : Transition). IsNoneOrNextProcess (length s.processes) t.entry.child) s tt (λ q. record {
  cannot = tt;
  turns = λ n y at lives. tt;
  calls = λ y at lives stands. effect_next s q y (call_of s q y) (call_of s q y).verdict (call_next s q y);
  traps = λ y cause at lives stands. tt;
}) e

below_next : (count p : ℕ) (o : Option ℕ) → IsNoneOrNextProcess count o → p ≤ count → is_made o p ≡ false
below_next count p None next le = refl
below_next count p (Some child) next le = ne_eqb child p (λ (same : child ≡ p). omega arith)

-- an event makes no process that is there before it
pub step_not_made : (s : SyncState) (p : ℕ) (y : Process) (e : Event) → process_at s.processes p ≡ Some y → is_made (step s e).entry.child p ≡ false
step_not_made s p y e at = below_next (length s.processes) p (step s e).entry.child (step_next s e) (at_below s.processes p y at)
