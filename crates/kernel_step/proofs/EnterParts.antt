-- The table of processes and the pipes after one more event.
use Rattle.std.proofs.Common.{◌≡◌, ℕ, zero, suc, ◌+◌, ◌*◌, ◌≤◌, List, [], ◌∷◌, ◌++◌, length, map, slice_set, Option, Some, None, refl, sym, ap, subst, ◌∙◌, arith}
use Rattle.std.proofs.lemmas.List.{map-set, map-append, length_push}
use Rattle.std.specs.List.{AllByRecursion}
use Rattle.calls.specs.Plans.{MayAllStep, all_seen}
use Rattle.calls.specs.declared.plan.CallPlan.{CallPlan}
use Rattle.pipes.specs.Seen.{Seen, Shows}
use Rattle.pipes.specs.Stepping.{HasAtMost, MayStep, seen_after}
use Rattle.processes.specs.Parts.{Part, part_of, with_part}
use Rattle.kernel_model.specs.Entries.{Entry}
use Rattle.kernel_model.specs.State.{Process, PipeState, process_at, put_process, stepped, all_stepped}
use Rattle.kernel_model.specs.Steps.{Transition, forked}
use Rattle.kernel_model.specs.World.{World}
use Rattle.kernel_model.specs.declared.effect.PipeStep.{PipeStep}
use Rattle.kernel_step.specs.Entering.{part_after, process_after, born, parts_after}
use Rattle.kernel_step.specs.Mirrors.{ArePipes}
use Rattle.kernel_step.proofs.EnterPlans.{part-seen}
use Rattle.kernel_step.proofs.Turning.{world_with}

-- ---- the parts
born-forked : (p : Process) (o : Option ℕ) → born (Some (part_of p)) o ≡ map part_of (forked p o)
born-forked p None = refl
born-forked p (Some child) = refl

pub parts-planned : (ps : List Process) (pid : ℕ) (p : Process) (plan : CallPlan) → process_at ps pid ≡ Some p
    → parts_after (map part_of ps) pid plan ≡ map part_of (put_process ps pid (process_after p plan) ++ forked p plan.child)
parts-planned ps zero p plan e = cc
parts-planned ps (suc k) p plan e =
    ap (λ (o : Option Part). with_part (map part_of ps) (suc k) o (λ x. part_after x plan) ++ born o plan.child) (part-seen ps (suc k) p e)
    ∙ ap (λ (xs : List Part). xs ++ born (Some (part_of p)) plan.child) (sym (map-set part_of ps k (process_after p plan)))
    ∙ ap (λ (xs : List Part). map part_of (slice_set ps k (process_after p plan)) ++ xs) (born-forked p plan.child)
    ∙ sym (map-append part_of (slice_set ps k (process_after p plan)) (forked p plan.child))

-- ---- the pipes
-- the laws of a step of a pipe: what is seen of the pipes after it, and that it adds at most one descriptor to an end
pub record PipeLaws : Type 0 where
  pub shown : (pipes : List PipeState) (seen : List Seen) (step : PipeStep) → Shows pipes seen → MayStep seen step → Shows (stepped pipes step) (seen_after seen step)
  pub grown : (n : ℕ) (pipes : List PipeState) (step : PipeStep) → AllByRecursion (HasAtMost n) pipes → AllByRecursion (HasAtMost (n + 1)) (stepped pipes step)

shows-all : PipeLaws → (pipes : List PipeState) (seen : List Seen) (steps : List PipeStep) → Shows pipes seen → MayAllStep seen steps
    → Shows (all_stepped pipes steps) (all_seen seen steps)
shows-all laws pipes seen [] h may = h
shows-all laws pipes seen (step ∷ steps) h may = shows-all laws (stepped pipes step) (seen_after seen step) steps (laws.shown pipes seen step h may.0) may.1

few-more : (n m : ℕ) (pipes : List PipeState) → n ≤ m → AllByRecursion (HasAtMost n) pipes → AllByRecursion (HasAtMost m) pipes
few-more n m [] more h = tt
few-more n m (p ∷ ps) more h = ((omega (arith, more, h.0.0), omega (arith, more, h.0.1)), few-more n m ps more h.1)

few-all : PipeLaws → (n m : ℕ) (pipes : List PipeState) (steps : List PipeStep) → n + length steps ≤ m → AllByRecursion (HasAtMost n) pipes
    → AllByRecursion (HasAtMost m) (all_stepped pipes steps)
few-all laws n m pipes [] room h = few-more n m pipes (omega (arith, room)) h
few-all laws n m pipes (step ∷ steps) room h = few-all laws (n + 1) m (stepped pipes step) steps (omega (arith, room)) (laws.grown n pipes step h)

pub pipes-planned : PipeLaws → (w : World) (seen : List Seen) (steps : List PipeStep) (t : Transition) → t.state.pipes ≡ all_stepped w.sync.pipes steps
    → length steps ≤ 16 → MayAllStep seen steps → ArePipes w seen → ArePipes (world_with w t) (all_seen seen steps)
pipes-planned laws w seen steps t is few may h =
    let longer : length (w.log ++ t.entry ∷ []) ≡ length w.log + 1 = length_push w.log t.entry in
    record {
      shown = subst (λ (ps : List PipeState). Shows ps (all_seen seen steps)) (sym is) (shows-all laws w.sync.pipes seen steps h.shown may);
      few =
          subst (λ (ps : List PipeState). AllByRecursion (HasAtMost (16 * length (w.log ++ t.entry ∷ []))) ps) (sym is)
          (few-all laws (16 * length w.log) (16 * length (w.log ++ t.entry ∷ [])) w.sync.pipes steps (omega (arith, few, longer)) h.few);
    }

-- ---- an event that touches neither
pub pipes-quiet : (w v : World) (seen seen' : List Seen) (e : Entry) → v.log ≡ w.log ++ e ∷ [] → v.sync.pipes ≡ w.sync.pipes → seen' ≡ seen
    → ArePipes w seen → ArePipes v seen'
pipes-quiet w v seen seen' e log pipes same h =
    let longer : length (w.log ++ e ∷ []) ≡ length w.log + 1 = length_push w.log e in
    let size : length v.log ≡ length (w.log ++ e ∷ []) = ap (λ (l : List Entry). length l) log in
    record {
      shown =
          subst (λ (x : List Seen). Shows v.sync.pipes x) (sym same)
          (subst (λ (ps : List PipeState). Shows ps seen) (sym pipes) h.shown);
      few =
          subst (λ (ps : List PipeState). AllByRecursion (HasAtMost (16 * length v.log)) ps) (sym pipes)
          (few-more (16 * length w.log) (16 * length v.log) w.sync.pipes (omega (arith, longer, size)) h.few);
    }

pub counted-quiet : (w v : World) (served served' : ℕ) (e : Entry) → v.log ≡ w.log ++ e ∷ [] → served' ≤ served + 1 → served ≤ length w.log → served' ≤ length v.log
counted-quiet w v served served' e log more h =
    let longer : length (w.log ++ e ∷ []) ≡ length w.log + 1 = length_push w.log e in
    let size : length v.log ≡ length (w.log ++ e ∷ []) = ap (λ (l : List Entry). length l) log in
    omega (arith, longer, size, more, h)
