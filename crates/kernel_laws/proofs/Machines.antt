-- How a machine comes from one state to another.
use Rattle.std.proofs.Common.{◌≡◌, ℕ, zero, suc, ◌+◌, List, [], ◌∷◌, ◌++◌, Some, refl, sym, ap, ◌∙◌, arith}
use Rattle.machine_model.specs.declared.reply.Reply.{Reply}
use Rattle.machine_model.specs.declared.stop.Stop.{Stop}
use Rattle.machine_model.specs.declared.stop.Stop.TheVariants.{Call}
use Rattle.machine_model.specs.States.{State, Goes, Halts, Ran, next, run, stopped_at}
use Rattle.machine_model.specs.Replies.{replied}
use Rattle.machine_model.proofs.Running.{run-zero, run-goes, run-halts}
use Rattle.kernel_laws.specs.Promises.{ComesTo}

pub run_zero : (s : State) → (run zero s).state ≡ s
run_zero s = ap (λ (r : Ran). r.state) (run-zero s)

-- a machine that stands stays
pub run_halted : (n : ℕ) (s : State) (stop : Stop) → next s ≡ Halts stop → (run n s).state ≡ s
run_halted zero s stop h = run_zero s
run_halted (suc n) s stop h = ap (λ (r : Ran). r.state) (run-halts n s stop h)

pub run_goes : (n : ℕ) (s t : State) → next s ≡ Goes t → (run (suc n) s).state ≡ (run n t).state
run_goes n s t h = ap (λ (r : Ran). r.state) (run-goes n s t h)

-- the same, one instruction earlier
run_more : (n m : ℕ) (s t : State) → next s ≡ Goes t → (run (n + m) t).state ≡ (run m (run n t).state).state
    → (run (suc n + m) s).state ≡ (run m (run (suc n) s).state).state
run_more n m s t h rest =
    let first : suc n + m ≡ suc (n + m) = omega arith in
    ap (λ (k : ℕ). (run k s).state) first
    ∙ run_goes (n + m) s t h
    ∙ rest
    ∙ ap (λ (u : State). (run m u).state) (sym (run_goes n s t h))

-- a run goes on where one before it came to
pub run-add : (n m : ℕ) (s : State) → (run (n + m) s).state ≡ (run m (run n s).state).state
run-add zero m s =
    let same : zero + m ≡ m = omega arith in
    ap (λ (k : ℕ). (run k s).state) same ∙ ap (λ (u : State). (run m u).state) (sym (run_zero s))
run-add (suc n) m s = elim (next s) as (λ o. next s ≡ o → (run (suc n + m) s).state ≡ (run m (run (suc n) s).state).state) [
  | Goes t ↦ λ h. run_more n m s t h (run-add n m t)
  | Halts stop ↦ λ h.
      run_halted (suc n + m) s stop h
      ∙ sym (run_halted m s stop h)
      ∙ ap (λ (u : State). (run m u).state) (sym (run_halted (suc n) s stop h))
] refl

-- it comes on by more instructions
pub comes_on : (s : State) (rs : List Reply) (t : State) (n : ℕ) → ComesTo s rs t → ComesTo s rs (run n t).state
comes_on s [] t n h = (h.0 + n, run-add h.0 n s ∙ ap (λ (u : State). (run n u).state) h.1)
comes_on s (r ∷ rs) t n h = (h.0, h.1, comes_on (replied (run h.0 s).state r) rs t n h.2)

-- and by one more reply, where it stands at a call
pub comes_replied : (s : State) (rs : List Reply) (t : State) (r : Reply) → stopped_at t ≡ Some Call → ComesTo s rs t → ComesTo s (rs ++ r ∷ []) (replied t r)
comes_replied s [] t r call h =
    (h.0, ap (λ (u : State). stopped_at u) h.1 ∙ call, (0, run_zero (replied (run h.0 s).state r) ∙ ap (λ (u : State). replied u r) h.1))
comes_replied s (x ∷ rs) t r call h = (h.0, h.1, comes_replied (replied (run h.0 s).state x) rs t r call h.2)

pub comes_at_once : (s : State) → ComesTo s [] s
comes_at_once s = (0, run_zero s)
