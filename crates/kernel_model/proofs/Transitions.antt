-- The events of a process, walked once: what holds of each transition that one may make holds of the event's.
use Rattle.std.proofs.Common.{◌≡◌, ℕ, ◌+◌, Bool, true, false, Option, Some, None, is_some, refl, ap}
use Rattle.std.specs.Prelude.{if◌then◌else◌}
use Rattle.machine_model.specs.States.{stopped_at}
use Rattle.machine_model.specs.declared.stop.Cause.{Cause}
use Rattle.machine_model.specs.declared.stop.Stop.{Stop}
use Rattle.machine_model.specs.declared.stop.Stop.TheVariants.{Limit, Call, Trap}
use Rattle.kernel_model.specs.Requests.{request_of}
use Rattle.machine_model.specs.Numbers.{cause_number}
use Rattle.kernel_model.specs.Rows.{CallEffect, row, row_end}
use Rattle.kernel_model.specs.State.{SyncState, Process, shared, process_at, with_process}
use Rattle.kernel_model.specs.Steps.{Transition, unchanged, impossible, own_entry, after_run, after_turn, after_effect, after_effect_if, after_enter, effect_at, step}
use Rattle.kernel_model.specs.declared.event.Event.{Event}
use Rattle.kernel_model.specs.declared.event.Event.TheVariants.{Turn, Enter, Cut, Complete, Fail}
use Rattle.kernel_model.specs.declared.request.Verdict.TheVariants.{Ends}

-- a Turn of at most n instructions that process pid, which is p, can have
abbrev pub turned : SyncState → ℕ → ℕ → Process → Transition
turned s pid n p = record { state = with_process s pid (after_run n p); entry = own_entry pid }

-- the effect of the call at which process pid, which is p, stands
abbrev pub call_of : SyncState → ℕ → Process → CallEffect
call_of s pid p = row (shared s) pid p.descriptors p.children (request_of p.state)

-- the effect of a trap
abbrev pub trap_of : Process → Cause → CallEffect
trap_of p cause = row_end p.descriptors (256 + cause_number cause)

-- What has to hold of each transition that an event of process pid may make: of one that it cannot have, of a Turn, and of an
-- Enter at a call and at a trap.
pub record OfEachEvent (P : Transition → Type 0) (s : SyncState) (pid : ℕ) : Type 0 where
  pub cannot : P (impossible pid s)
  pub turns : (n : ℕ) (p : Process) → process_at s.processes pid ≡ Some p → is_some p.status ≡ false → P (turned s pid n p)
  pub calls : (p : Process) → process_at s.processes pid ≡ Some p → is_some p.status ≡ false → stopped_at p.state ≡ Some Call
      → P (after_effect s pid p (call_of s pid p) (call_of s pid p).verdict)
  pub traps : (p : Process) (cause : Cause) → process_at s.processes pid ≡ Some p → is_some p.status ≡ false → stopped_at p.state ≡ Some (Trap cause)
      → P (after_effect s pid p (trap_of p cause) (Ends (256 + cause_number cause)))

-- the same, where a call and a trap are alike
pub each_event : (P : Transition → Type 0) (s : SyncState) (pid : ℕ) → P (impossible pid s)
    → ((n : ℕ) (p : Process) → process_at s.processes pid ≡ Some p → is_some p.status ≡ false → P (turned s pid n p))
    → ((p : Process) (e : CallEffect) → process_at s.processes pid ≡ Some p → is_some p.status ≡ false
    → effect_at (shared s) pid p (stopped_at p.state) ≡ Some e → P (after_effect s pid p e e.verdict))
    → OfEachEvent P s pid
each_event P s pid cannot turns enters = record {
  cannot = cannot;
  turns = turns;
  calls = λ p at lives stands. enters p (call_of s pid p) at lives (ap (λ (o : Option Stop). effect_at (shared s) pid p o) stands);
  traps = λ p cause at lives stands. enters p (trap_of p cause) at lives (ap (λ (o : Option Stop). effect_at (shared s) pid p o) stands);
}

-- Below, a process of whose events that holds.
module _ (P : Transition → Type 0) (s : SyncState) (pid : ℕ) (of : OfEachEvent P s pid) where
  turn_is : (n : ℕ) (o : Option Process) → process_at s.processes pid ≡ o → P (after_turn s pid n o)
  turn_is n None at = of.cannot
  turn_is n (Some p) at = by (is_some p.status) refl
    where
      by : (b : Bool) → is_some p.status ≡ b → P (if b then impossible pid s else turned s pid n p)
      by true ended = of.cannot
      by false lives = of.turns n p at lives

  stop_is : (p : Process) (o : Option Stop) → process_at s.processes pid ≡ Some p → is_some p.status ≡ false → stopped_at p.state ≡ o
      → P (after_effect_if s pid p (effect_at (shared s) pid p o))
  stop_is p None at lives stands = of.cannot
  stop_is p (Some Limit) at lives stands = of.cannot
  stop_is p (Some Call) at lives stands = of.calls p at lives stands
  stop_is p (Some (Trap cause)) at lives stands = of.traps p cause at lives stands

  enter_is : (o : Option Process) → process_at s.processes pid ≡ o → P (after_enter s pid o)
  enter_is None at = of.cannot
  enter_is (Some p) at = by (is_some p.status) refl
    where
      by : (b : Bool) → is_some p.status ≡ b
          → P (if b then impossible pid s else after_effect_if s pid p (effect_at (shared s) pid p (stopped_at p.state)))
      by true ended = of.cannot
      by false lives = stop_is p (stopped_at p.state) at lives refl

  -- it holds of a Turn, and of an Enter
  pub of_turn : (n : ℕ) → P (step s (Turn pid n))
  of_turn n = turn_is n (process_at s.processes pid) refl

  pub of_enter : P (step s (Enter pid))
  of_enter = enter_is (process_at s.processes pid) refl

-- and of each event, where it holds of those of the disk
pub of_step : (P : Transition → Type 0) (s : SyncState) → P (unchanged s) → ((pid : ℕ) → OfEachEvent P s pid) → (e : Event) → P (step s e)
of_step P s still of (Turn pid n) = of_turn P s pid (of pid) n
of_step P s still of (Enter pid) = of_enter P s pid (of pid)
of_step P s still of Cut = still
of_step P s still of (Complete at) = still
of_step P s still of (Fail at) = still
