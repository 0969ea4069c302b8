-- An event that is accepted is of no process that is lent.
use Rattle.std.proofs.Common.{◌≡◌, ℕ, ◌+◌, Bool, true, false, List, [], ◌∷◌, Option, Some, None, ap, subst, ◌∙◌}
use Rattle.std.specs.Prelude.{◌||◌, not, nat_lt, nat_le, is_none}
use Rattle.kernel_model.specs.Answers.{Kernel, Test, ◌⇒◌, first_of, has_ended, is_stopped, count_at, limit, turn_refusal, enter_refusal, refusal, is_full, is_lent, now, process_of, with_event}
use Rattle.kernel_model.specs.State.{Process, process_at}
use Rattle.kernel_model.specs.World.{World}
use Rattle.kernel_model.specs.declared.answer.Refused.TheVariants as refused
use Rattle.kernel_model.specs.declared.event.Event.{Event}
use Rattle.kernel_model.specs.declared.event.Event.TheVariants.{Turn, Enter, Cut, Complete, Fail}
use Rattle.kernel_model.proofs.Runs.{now-with_event}
use Rattle.kernel_laws.proofs.Others.{IsNotOf, step_keeps}

lent-refused : (a b : Bool) (rest : List Test) → first_of ((a ⇒ refused.NoProcess) ∷ (b ⇒ refused.Ended) ∷ (true ⇒ refused.Lent) ∷ rest) ≡ None → ⊥
lent-refused true b rest fine = cc
lent-refused false true rest fine = cc
lent-refused false false rest fine = cc

turn-lent : (o : Option Process) (lent full : Bool) (n : ℕ) → turn_refusal o lent full n ≡ None → lent ≡ true → ⊥
turn-lent o lent full n fine is = lent-refused (is_none o) (has_ended o) ((nat_lt limit (count_at o + n) || full ⇒ refused.Budget) ∷ [])
    (subst (λ (b : Bool). turn_refusal o b full n ≡ None) is fine)

enter-lent : (o : Option Process) (lent full : Bool) → enter_refusal o lent full ≡ None → lent ≡ true → ⊥
enter-lent o lent full fine is = lent-refused (is_none o) (has_ended o) ((not (is_stopped o) ⇒ refused.NotStopped) ∷ (nat_le limit (count_at o) || full ⇒ refused.Budget) ∷ [])
    (subst (λ (b : Bool). enter_refusal o b full ≡ None) is fine)

same-lent : (k : Kernel) (p q : ℕ) → p ≡ q → is_lent k p ≡ true → is_lent k q ≡ true
same-lent k p q same lent = subst (λ (n : ℕ). is_lent k n ≡ true) same lent

not-of-lent : (k : Kernel) (e : Event) (p : ℕ) → refusal k e ≡ None → is_lent k p ≡ true → IsNotOf p e
not-of-lent k (Turn q n) p fine lent = λ same. turn-lent (process_of k q) (is_lent k q) (is_full k) n fine (same-lent k p q same lent)
not-of-lent k (Enter q) p fine lent = λ same. enter-lent (process_of k q) (is_lent k q) (is_full k) fine (same-lent k p q same lent)
not-of-lent k Cut p fine lent = tt
not-of-lent k (Complete at) p fine lent = tt
not-of-lent k (Fail at) p fine lent = tt

pub lent-stays : (k : Kernel) (e : Event) (p : ℕ) (x : Process) → refusal k e ≡ None → is_lent k p ≡ true → process_of k p ≡ Some x → process_of (with_event k e) p ≡ Some x
lent-stays k e p x fine lent at =
    ap (λ (w : World). process_at w.sync.processes p) (now-with_event k e) ∙ step_keeps (now k).sync p x e at (not-of-lent k e p fine lent)
