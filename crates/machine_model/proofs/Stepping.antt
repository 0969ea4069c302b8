-- What `next` and `run` compute is what the relations say.
use Rattle.std.proofs.Common.{◌≡◌, ◌≢◌, ◌↔◌, ℕ, suc, zero, ◌+◌, ◌<◌, refl, sym, ap, subst, ◌∙◌, arith}
use Rattle.std.specs.Prelude.{Option, Some, None, Result, Ok, Err}
use Rattle.formats.specs.declared.instr.Instr.{Instr}
use Rattle.formats.specs.Meaning.{Means}
use Rattle.formats.specs.Table.{instr_of}
use Rattle.memory_model.specs.Access.{fetched}
use Rattle.machine_model.specs.Effects.{InstructionEffect, Becomes, Stops, effect}
use Rattle.machine_model.specs.States.{State, state, Stepped, Goes, Halts, Ran, reached_at, counted, by_instr, by_fetch, next, after, by_step, run, stopped_at}
use Rattle.machine_model.specs.Steps.{Step, StandsAt, ByFetch, ByWord, ByInstruction, Runs, NextIsStep, RunIsSteps}
use Rattle.memory_model.specs.declared.access.BusFault.{BusFault}
use Rattle.machine_model.specs.declared.stop.Cause.{Cause}
use Rattle.machine_model.specs.declared.stop.Cause.TheVariants as cause
use Rattle.machine_model.specs.declared.stop.Stop.{Stop}
use Rattle.machine_model.specs.declared.stop.Stop.TheVariants.{Limit, Trap}
use Rattle.machine_model.proofs.Running.{run-zero, run-goes, run-halts}
use Rattle.machine_model.proofs.Halting.{same_stop, effect_not}

-- the law of the instruction table
abbrev pub Agree : Type 0
Agree = (w : ℕ) (i : Instr) → Means w i ↔ (instr_of w ≡ Some i)

goes_not : (stop : Stop) (t : State) → Halts stop ≡ Goes t → ⊥
goes_not stop t e = cc

halts_not : (t : State) (stop : Stop) → Goes t ≡ Halts stop → ⊥
halts_not t stop e = cc

same_goal : (s t : State) → Goes s ≡ Goes t → s ≡ t
same_goal s t e = cc

effect-goes : (s t : State) (w : ℕ) (i : Instr) (e : InstructionEffect) → fetched s.architectural.memory s.architectural.pc ≡ Ok w → Means w i → effect i s.architectural ≡ e → counted s.count e ≡ Goes t → Step s t
effect-goes s t w i (Becomes h) f m is g =
    let same = same_goal (state h (s.count + 1)) t g in
    record { word = w; instruction = i; fetch = f; means = m; does = is ∙ ap (λ (x : State). Becomes x.architectural) same; counts = ap (λ (x : State). x.count) (sym same) }
effect-goes s t w i (Stops stop) f m is g = absurd (goes_not stop t g)

instr-goes : Agree → (s t : State) (w : ℕ) (o : Option Instr) → fetched s.architectural.memory s.architectural.pc ≡ Ok w → instr_of w ≡ o → by_instr s o ≡ Goes t → Step s t
instr-goes agree s t w None f is g = absurd (goes_not (Trap cause.Illegal) t g)
instr-goes agree s t w (Some i) f is g = effect-goes s t w i (effect i s.architectural) f ((agree w i).1 is) refl g

fetch-goes : Agree → (s t : State) (r : Result ℕ BusFault) → fetched s.architectural.memory s.architectural.pc ≡ r → by_fetch s r ≡ Goes t → Step s t
fetch-goes agree s t (Err fault) f g = absurd (goes_not (Trap cause.FetchFault) t g)
fetch-goes agree s t (Ok w) f g = instr-goes agree s t w (instr_of w) f refl g

next-goes : Agree → (s t : State) → next s ≡ Goes t → Step s t
unfolding next
next-goes agree s t g = fetch-goes agree s t (fetched s.architectural.memory s.architectural.pc) refl g

step-next : Agree → (s t : State) → Step s t → next s ≡ Goes t
unfolding next
step-next agree s t step =
    ap (by_fetch s) step.fetch
    ∙ ap (by_instr s) ((agree step.word step.instruction).0 step.means)
    ∙ ap (counted s.count) step.does
    ∙ ap (λ (k : ℕ). Goes (state t.architectural k)) (sym step.counts)

effect-halts : (s : State) (stop : Stop) (w : ℕ) (i : Instr) (e : InstructionEffect) → fetched s.architectural.memory s.architectural.pc ≡ Ok w → Means w i → effect i s.architectural ≡ e → counted s.count e ≡ Halts stop → StandsAt s stop
effect-halts s stop w i (Becomes h) f m is g = absurd (halts_not (state h (s.count + 1)) stop g)
effect-halts s stop w i (Stops own) f m is g =
    ByInstruction (record { word = w; instruction = i; fetch = f; means = m; does = is ∙ ap (λ (x : Stop). Stops x) (same_stop own stop g) })

no_instr : Agree → (w : ℕ) → instr_of w ≡ None → (i : Instr) → Means w i → ⊥
no_instr agree w none i means = clash (sym none ∙ (agree w i).0 means)
  where
    clash : None ≡ Some i → ⊥
    clash e = cc

instr-halts : Agree → (s : State) (stop : Stop) (w : ℕ) (o : Option Instr) → fetched s.architectural.memory s.architectural.pc ≡ Ok w → instr_of w ≡ o → by_instr s o ≡ Halts stop → StandsAt s stop
instr-halts agree s stop w None f is g =
    ByWord (sym (same_stop (Trap cause.Illegal) stop g)) (record { word = w; fetch = f; means_none = no_instr agree w is })
instr-halts agree s stop w (Some i) f is g = effect-halts s stop w i (effect i s.architectural) f ((agree w i).1 is) refl g

fetch-halts : Agree → (s : State) (stop : Stop) (r : Result ℕ BusFault) → fetched s.architectural.memory s.architectural.pc ≡ r → by_fetch s r ≡ Halts stop → StandsAt s stop
fetch-halts agree s stop (Err fault) f g = ByFetch (sym (same_stop (Trap cause.FetchFault) stop g)) (record { fault = fault; fetch = f })
fetch-halts agree s stop (Ok w) f g = instr-halts agree s stop w (instr_of w) f refl g

next-halts : Agree → (s : State) (stop : Stop) → next s ≡ Halts stop → StandsAt s stop
unfolding next
next-halts agree s stop g = fetch-halts agree s stop (fetched s.architectural.memory s.architectural.pc) refl g

illegal_none : Agree → (w : ℕ) → ((i : Instr) → Means w i → ⊥) → (o : Option Instr) → instr_of w ≡ o → o ≡ None
illegal_none agree w none None is = refl
illegal_none agree w none (Some i) is = absurd (none i ((agree w i).1 is))

stands-next : Agree → (s : State) (stop : Stop) → StandsAt s stop → next s ≡ Halts stop
unfolding next
stands-next agree s stop (ByFetch is fails) = ap (by_fetch s) fails.fetch ∙ ap (λ (x : Stop). Halts x) (sym is)
stands-next agree s stop (ByWord is illegal) =
    ap (by_fetch s) illegal.fetch
    ∙ ap (by_instr s) (illegal_none agree illegal.word illegal.means_none (instr_of illegal.word) refl)
    ∙ ap (λ (x : Stop). Halts x) (sym is)
stands-next agree s stop (ByInstruction own) =
    ap (by_fetch s) own.fetch ∙ ap (by_instr s) ((agree own.word own.instruction).0 own.means) ∙ ap (counted s.count) own.does

pub next-is-step : Agree → NextIsStep
next-is-step agree s = ((λ t. (next-goes agree s t, step-next agree s t)), (λ stop. (next-halts agree s stop, stands-next agree s stop)))

-- what the law says of one run
abbrev IsRun : ℕ → State → Ran → Type 0
IsRun max s r = Runs r.count s r.state × ((r.stop ≡ Limit) ↔ (r.count ≡ max)) × (r.stop ≢ Limit → (r.count < max) × (stopped_at r.state ≡ Some r.stop))

one_more : (n : ℕ) (s t : State) (r : Ran) → Step s t → IsRun n t r → IsRun (suc n) s (after 1 r)
one_more n s t r step is =
    let count : suc r.count ≡ 1 + r.count = omega arith in
    let runs : Runs (suc r.count) s r.state = (t, step, is.0) in (
      subst (λ (k : ℕ). Runs k s r.state) count runs,
      ((λ limit. let all : r.count ≡ n = is.1.0 limit in omega arith), (λ all. is.1.1 (omega arith))),
      λ other. let f = is.2 other in (omega (arith, f.0), f.1),
    )

trap_limit : (c : Cause) (stop : Stop) → stop ≡ Trap c → stop ≡ Limit → ⊥
trap_limit c stop is e = clash c (sym is ∙ e)
  where
    clash : (c : Cause) → Trap c ≡ Limit → ⊥
    clash c e = cc

stands_limit : (s : State) (stop : Stop) → StandsAt s stop → stop ≡ Limit → ⊥
stands_limit s stop (ByFetch is fails) e = trap_limit cause.FetchFault stop is e
stands_limit s stop (ByWord is illegal) e = trap_limit cause.Illegal stop is e
stands_limit s stop (ByInstruction own) e = effect_not own.instruction s.architectural (own.does ∙ ap (λ (x : Stop). Stops x) e)

stands-here : (s : State) (stop : Stop) → next s ≡ Halts stop → stopped_at s ≡ Some stop
stands-here s stop e = ap (λ (x : Stepped). by_step {A = Option Stop} x (λ t. None) (λ stop. Some stop)) e

halted : (n : ℕ) (s : State) (stop : Stop) → (stop ≡ Limit → ⊥) → next s ≡ Halts stop → IsRun (suc n) s (reached_at 0 s stop)
halted n s stop apart e =
    (refl, ((λ limit. absurd (apart limit)), (λ all. let none : 0 ≡ suc n = all in absurd (omega arith))), λ other. (omega arith, stands-here s stop e))

run-by : Agree → (n : ℕ) (s : State) → ((t : State) → IsRun n t (run n t)) → (x : Stepped) → next s ≡ x → IsRun (suc n) s (run (suc n) s)
run-by agree n s later (Goes t) e = subst (λ (r : Ran). IsRun (suc n) s r) (sym (run-goes n s t e)) (one_more n s t (run n t) (next-goes agree s t e) (later t))
run-by agree n s later (Halts stop) e =
    subst (λ (r : Ran). IsRun (suc n) s r) (sym (run-halts n s stop e)) (halted n s stop (stands_limit s stop (next-halts agree s stop e)) e)

pub run-is-steps : Agree → RunIsSteps
run-is-steps agree zero s =
    subst (λ (r : Ran). IsRun zero s r) (sym (run-zero s)) (refl, ((λ limit. refl), (λ all. refl)), λ other. absurd (other refl))
run-is-steps agree (suc n) s = run-by agree n s (run-is-steps agree n) (next s) refl
