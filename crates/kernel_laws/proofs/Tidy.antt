-- What every entry has. One of no process does nothing. An event that tells its process something reads and writes that process. A process
-- that is made is the next by number, and is written; its parent is there, and is told its number.
use Rattle.std.proofs.Common.{◌≡◌, ℕ, ◌+◌, ◌≤◌, ◌==◌, true, false, List, [], ◌∷◌, length, Option, Some, None, IfSome, is_some, refl, sym, ap, subst, ◌∙◌}
use Rattle.std.proofs.lemmas.Bool.{eqb-true, eq-eqb, false≢true, or_left, or_right}
use Rattle.machine_model.specs.States.{stopped_at}
use Rattle.kernel_model.specs.Entries.{Entry, is_among}
use Rattle.kernel_model.specs.Limits.{AreNumbered}
use Rattle.kernel_model.specs.Rows.{CallEffect}
use Rattle.kernel_model.specs.State.{SyncState, Process, process_at}
use Rattle.kernel_model.specs.Steps.{Transition, after_effect, step}
use Rattle.kernel_model.specs.declared.carrier.Carrier.TheVariants.{Proc, Tasks}
use Rattle.kernel_model.specs.declared.event.Event.{Event}
use Rattle.kernel_model.specs.declared.request.Verdict.{Verdict}
use Rattle.kernel_model.specs.declared.request.Verdict.TheVariants.{Waits, Replies, Ends}
use Rattle.kernel_model.proofs.Limits.{at_below}
use Rattle.kernel_model.proofs.Transitions.{each_event, of_step}
use Rattle.kernel_laws.proofs.Effects.{Keeps, effect_keeps}

pub record IsIdle (e : Entry) : Type 0 where
  pub writes : e.writes ≡ []
  pub change : e.change ≡ None
  pub output : e.output ≡ None
  pub item : e.item ≡ None
  pub child : e.child ≡ None

pub record IsTidy (s : SyncState) (e : Entry) : Type 0 where
  pub idle : (e.process == 0) ≡ true → IsIdle e
  pub own : is_some e.item ≡ true → (is_among (Proc e.process) e.writes ≡ true) × (is_among (Proc e.process) e.reads ≡ true)
  pub made : IfSome e.child (λ c. (c ≡ length s.processes + 1) × (is_among (Proc c) e.writes ≡ true) × (is_some e.item ≡ true) × (e.process ≤ length s.processes))

none_some : {A : Type 0} (o : Option A) → o ≡ None → is_some o ≡ true → ⊥
none_some o e h = let no : is_some o ≡ false = ap (λ p. is_some p) e in false≢true (sym no ∙ h)

not_zero : (ps : List Process) (pid : ℕ) (p : Process) → process_at ps pid ≡ Some p → (pid == 0) ≡ true → ⊥
not_zero ps pid p at h = let zero_at : process_at ps 0 ≡ Some p = subst (λ (k : ℕ). process_at ps k ≡ Some p) (eqb-true pid 0 h) at in let no : ⊥ = cc in no

idle_tidy : (s : SyncState) (e : Entry) → IsIdle e → IsTidy s e
idle_tidy s e idle = record {
  idle = λ h. idle;
  own = λ h. absurd (none_some e.item idle.item h);
  made = subst (λ (o : Option ℕ). IfSome o (λ c. (c ≡ length s.processes + 1) × (is_among (Proc c) e.writes ≡ true) × (is_some e.item ≡ true) × (e.process ≤ length s.processes))) (sym idle.child) tt;
}

effect_tidy : (s : SyncState) (pid : ℕ) (p : Process) (e : CallEffect) (v : Verdict) → process_at s.processes pid ≡ Some p → Keeps s e → IsTidy s (after_effect s pid p e v).entry
effect_tidy s pid p e Waits at keeps = idle_tidy s _ (record { writes = refl; change = refl; output = refl; item = refl; child = refl })
effect_tidy s pid p e (Replies r) at keeps = record {
  idle = λ h. absurd (not_zero s.processes pid p at h);
  own = λ h. (or_left (pid == pid) _ (eq-eqb pid pid refl), or_left (pid == pid) _ (eq-eqb pid pid refl));
  made = by e.child keeps.child;
}
  where
    by : (o : Option ℕ) → IfSome o (λ c. (c ≡ length s.processes + 1) × (is_among Tasks e.writes ≡ true) × (is_among (Proc c) e.writes ≡ true))
        → IfSome o (λ c. (c ≡ length s.processes + 1) × (is_among (Proc c) (Proc pid ∷ e.writes) ≡ true) × (true ≡ true) × (pid ≤ length s.processes))
    by None h = tt
    by (Some c) h = (h.0, or_right (c == pid) (is_among (Proc c) e.writes) h.2, refl, at_below s.processes pid p at)
effect_tidy s pid p e (Ends status) at keeps = record {
  idle = λ h. absurd (not_zero s.processes pid p at h);
  own = λ h. (or_left (pid == pid) _ (eq-eqb pid pid refl), or_left (pid == pid) _ (eq-eqb pid pid refl));
  made = tt;
}

pub step_tidy : (s : SyncState) (e : Event) → AreNumbered s.files → IsTidy s (step s e).entry
step_tidy s e are = of_step (λ (t : Transition). IsTidy s t.entry) s
    (idle_tidy s _ (record { writes = refl; change = refl; output = refl; item = refl; child = refl }))
    (λ pid. each_event (λ (t : Transition). IsTidy s t.entry) s pid
    (idle_tidy s _ (record { writes = refl; change = refl; output = refl; item = refl; child = refl }))
    (λ n p at lives. record { idle = λ h. absurd (not_zero s.processes pid p at h); own = λ h. absurd (false≢true h); made = tt })
    (λ p f at lives is. effect_tidy s pid p f f.verdict at (effect_keeps s pid p (stopped_at p.state) f are is))) e
