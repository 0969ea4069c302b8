-- What a run of one instruction says of longer ones.
use Rattle.std.proofs.Common.{◌≡◌, ℕ, suc, zero, ◌+◌, ◌-◌, ◌<◌, ◌≤◌, List, [], ◌∷◌, refl, sym, ap, subst, ◌∙◌, arith}
use Rattle.machine_model.specs.States.{State, Stepped, Goes, Halts, Ran, reached_at, next, after, by_step, run}
use Rattle.machine_model.specs.declared.stop.Stop.{Stop}
use Rattle.machine_model.proofs.Running.{run-zero, run-goes, run-halts}
use Rattle.exec_records.specs.Begun.{begun}

begun-goes : (n : ℕ) (s t : State) → next s ≡ Goes t → begun (suc n) s ≡ s.architectural.pc ∷ begun n t
unfolding begun
begun-goes n s t e = ap (λ (x : Stepped). by_step {A = List ℕ} x (λ u. s.architectural.pc ∷ begun n u) (λ stop. [])) e

begun-halts : (n : ℕ) (s : State) (stop : Stop) → next s ≡ Halts stop → begun n s ≡ []
unfolding begun
begun-halts zero s stop e = refl
begun-halts (suc n) s stop e = ap (λ (x : Stepped). by_step {A = List ℕ} x (λ u. s.architectural.pc ∷ begun n u) (λ stop. [])) e

-- the instruction that a run of one did is the first of a longer run
begun-first : (n d : ℕ) (s t : State) (stop : Stop) → run 1 s ≡ reached_at d t stop → 0 < d → begun (suc n) s ≡ s.architectural.pc ∷ begun n t
begun-first n d s t stop ran some = by (next s) refl
  where
    by : (x : Stepped) → next s ≡ x → begun (suc n) s ≡ s.architectural.pc ∷ begun n t
    by (Goes u) e =
        let one : after 1 (run zero u) ≡ reached_at d t stop = sym (run-goes zero s u e) ∙ ran in
        let same : u ≡ t = sym (ap (λ (r : Ran). r.state) (run-zero u)) ∙ ap (λ (r : Ran). r.state) one in
        begun-goes n s u e ∙ ap (λ (v : State). s.architectural.pc ∷ begun n v) same
    by (Halts why) e =
        let none : 0 ≡ d = ap (λ (r : Ran). r.count) (sym (run-halts zero s why e) ∙ ran) in
        absurd (omega (arith, none, some))

-- where a run of one did none, a longer one does none
pub begun-none : (n : ℕ) (s t : State) (stop : Stop) → run 1 s ≡ reached_at 0 t stop → begun n s ≡ []
begun-none n s t stop ran = by (next s) refl
  where
    by : (x : Stepped) → next s ≡ x → begun n s ≡ []
    by (Goes u) e =
        let one : 1 + (run zero u).count ≡ 0 = ap (λ (r : Ran). r.count) (sym (run-goes zero s u e) ∙ ran) in
        absurd (omega (arith, one))
    by (Halts why) e = begun-halts n s why e

-- a run of no instructions does none
pub begun-over : (n : ℕ) (s : State) → n ≤ 0 → begun n s ≡ []
unfolding begun
begun-over zero s over = refl
begun-over (suc n) s over = absurd (omega (arith, over))

-- what is left of a run after its first instruction
pub begun-next : (left d : ℕ) (s t : State) (stop : Stop) → 0 < left → run 1 s ≡ reached_at d t stop → 0 < d → begun left s ≡ s.architectural.pc ∷ begun (left - 1) t
begun-next zero d s t stop more ran some = absurd (omega (arith, more))
begun-next (suc n) d s t stop more ran some =
    let rest : n ≡ suc n - 1 = omega arith in
    subst (λ (m : ℕ). begun (suc n) s ≡ s.architectural.pc ∷ begun m t) rest (begun-first n d s t stop ran some)
