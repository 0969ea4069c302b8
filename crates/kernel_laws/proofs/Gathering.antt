-- The events that a fine run becomes are its items, gathered.
use Rattle.std.proofs.Common.{◌≡◌, ℕ, zero, suc, ◌+◌, ◌==◌, Bool, true, false, ◌||◌, if◌then◌else◌, List, [], ◌∷◌, ◌++◌, refl, sym, ap, subst, ◌∙◌, arith}
use Rattle.std.proofs.lemmas.Bool.{eqb-true, eqb-false, eq-eqb, ne_eqb, or_left}
use Rattle.kernel_model.specs.World.{World, happens}
use Rattle.kernel_model.specs.Fine.{Fine, Instruction, Other, delayed, gathered, IsFine}
use Rattle.kernel_model.specs.declared.event.Event.{Event}
use Rattle.kernel_model.specs.declared.event.Event.TheVariants.{Turn, Enter, Cut, Complete, Fail}
use Rattle.kernel_laws.specs.Gathering.{HasNoTurn, others, without_turns, of_process, burst, bursts_from, enters_first, are_turns, HasLateTurns, IsGathered}

-- an instruction leaves what is no Turn
without_delayed : (p : ℕ) (es : List Event) → without_turns (delayed p es) ≡ without_turns es
without_delayed p [] = refl
without_delayed p (Turn q n ∷ es) = elim (q == p) as (λ b. without_turns (if b then Turn q (n + 1) ∷ es else Turn q n ∷ delayed p es) ≡ without_turns es) [
  | true ↦ refl
  | false ↦ without_delayed p es
]
without_delayed p (Enter q ∷ es) = elim (q == p) as (λ b. without_turns (if b then Turn p 1 ∷ Enter q ∷ es else Enter q ∷ delayed p es) ≡ Enter q ∷ without_turns es) [
  | true ↦ refl
  | false ↦ ap (λ xs. Enter q ∷ xs) (without_delayed p es)
]
without_delayed p (Cut ∷ es) = ap (λ xs. Cut ∷ xs) (without_delayed p es)
without_delayed p (Complete at ∷ es) = ap (λ xs. Complete at ∷ xs) (without_delayed p es)
without_delayed p (Fail at ∷ es) = ap (λ xs. Fail at ∷ xs) (without_delayed p es)

others_stay : (items : List Fine) → HasNoTurn items → without_turns (gathered items) ≡ others items
others_stay [] h = refl
others_stay (Instruction p ∷ items) h = without_delayed p (gathered items) ∙ others_stay items h
others_stay (Other (Turn p n) ∷ items) h = absurd h
others_stay (Other (Enter p) ∷ items) h = ap (λ xs. Enter p ∷ xs) (others_stay items h)
others_stay (Other Cut ∷ items) h = ap (λ xs. Cut ∷ xs) (others_stay items h)
others_stay (Other (Complete at) ∷ items) h = ap (λ xs. Complete at ∷ xs) (others_stay items h)
others_stay (Other (Fail at) ∷ items) h = ap (λ xs. Fail at ∷ xs) (others_stay items h)

-- an instruction is delayed among its own process's events
own_delayed : (p : ℕ) (es : List Event) → of_process p (delayed p es) ≡ delayed p (of_process p es)
own_delayed p [] = let self : (p == p) ≡ true = eq-eqb p p refl in rw self refl
own_delayed p (Turn q n ∷ es) = elim (q == p) as (λ b. (q == p) ≡ b → of_process p (delayed p (Turn q n ∷ es)) ≡ delayed p (of_process p (Turn q n ∷ es))) [
  | true ↦ λ e. rw (e, e) refl
  | false ↦ λ e. rw (e, e) (own_delayed p es)
] refl
own_delayed p (Enter q ∷ es) = elim (q == p) as (λ b. (q == p) ≡ b → of_process p (delayed p (Enter q ∷ es)) ≡ delayed p (of_process p (Enter q ∷ es))) [
  | true ↦ λ e. let self : (p == p) ≡ true = eq-eqb p p refl in rw (e, self, e) refl
  | false ↦ λ e. rw (e, e) (own_delayed p es)
] refl
own_delayed p (Cut ∷ es) = own_delayed p es
own_delayed p (Complete at ∷ es) = own_delayed p es
own_delayed p (Fail at ∷ es) = own_delayed p es

-- and leaves those of another process
other_delayed : (p q : ℕ) (es : List Event) → (q == p) ≡ false → of_process p (delayed q es) ≡ of_process p es
other_delayed p q [] e = rw e refl
other_delayed p q (Turn r n ∷ es) e = elim (r == q) as (λ b. (r == q) ≡ b → of_process p (if b then Turn r (n + 1) ∷ es else Turn r n ∷ delayed q es) ≡ of_process p (Turn r n ∷ es)) [
  | true ↦ λ d. let apart : (r == p) ≡ false = subst (λ (x : ℕ). (x == p) ≡ false) (sym (eqb-true r q d)) e in rw apart refl
  | false ↦ λ d. ap (λ (xs : List Event). if r == p then Turn r n ∷ xs else xs) (other_delayed p q es e)
] refl
other_delayed p q (Enter r ∷ es) e = elim (r == q) as (λ b. of_process p (if b then Turn q 1 ∷ Enter r ∷ es else Enter r ∷ delayed q es) ≡ of_process p (Enter r ∷ es)) [
  | true ↦ rw e refl
  | false ↦ ap (λ (xs : List Event). if r == p then Enter r ∷ xs else xs) (other_delayed p q es e)
]
other_delayed p q (Cut ∷ es) e = other_delayed p q es e
other_delayed p q (Complete at ∷ es) e = other_delayed p q es e
other_delayed p q (Fail at ∷ es) e = other_delayed p q es e

-- a Turn of one more instruction, at the end and before an Enter
burst_last : (p k : ℕ) → burst p (suc k) ≡ delayed p (burst p k)
burst_last p zero = refl
burst_last p (suc k) =
    let self : (p == p) ≡ true = eq-eqb p p refl in
    let more : suc k + 1 ≡ suc (suc k) = omega arith in
    rw (self, more) refl

burst_enter : (p k q : ℕ) (es : List Event) → (q == p) ≡ true → burst p (suc k) ++ Enter q ∷ es ≡ delayed p (burst p k ++ Enter q ∷ es)
burst_enter p zero q es e = rw e refl
burst_enter p (suc k) q es e =
    let self : (p == p) ≡ true = eq-eqb p p refl in
    let more : suc k + 1 ≡ suc (suc k) = omega arith in
    rw (self, more) refl

bursts_more : (p k : ℕ) (items : List Fine) → HasNoTurn items → bursts_from p (suc k) items ≡ delayed p (bursts_from p k items)
bursts_more p k [] h = burst_last p k
bursts_more p k (Instruction q ∷ items) h = elim (q == p) as (λ b.
    (if b then bursts_from p (suc (suc k)) items else bursts_from p (suc k) items)
    ≡ delayed p (if b then bursts_from p (suc k) items else bursts_from p k items)) [
      | true ↦ bursts_more p (suc k) items h
      | false ↦ bursts_more p k items h
    ]
bursts_more p k (Other (Turn q n) ∷ items) h = absurd h
bursts_more p k (Other (Enter q) ∷ items) h = elim (q == p) as (λ b. (q == p) ≡ b
    → (if b then burst p (suc k) ++ Enter q ∷ bursts_from p 0 items else bursts_from p (suc k) items)
    ≡ delayed p (if b then burst p k ++ Enter q ∷ bursts_from p 0 items else bursts_from p k items)) [
      | true ↦ λ e. burst_enter p k q (bursts_from p 0 items) e
      | false ↦ λ e. bursts_more p k items h
    ] refl
bursts_more p k (Other Cut ∷ items) h = bursts_more p k items h
bursts_more p k (Other (Complete at) ∷ items) h = bursts_more p k items h
bursts_more p k (Other (Fail at) ∷ items) h = bursts_more p k items h

each_process : (p : ℕ) (items : List Fine) → HasNoTurn items → of_process p (gathered items) ≡ bursts_from p 0 items
each_process p [] h = refl
each_process p (Instruction q ∷ items) h = elim (q == p) as (λ b. (q == p) ≡ b
    → of_process p (delayed q (gathered items)) ≡ (if b then bursts_from p 1 items else bursts_from p 0 items)) [
      | true ↦ λ e. subst (λ (r : ℕ). of_process p (delayed r (gathered items)) ≡ bursts_from p 1 items) (sym (eqb-true q p e))
          (own_delayed p (gathered items) ∙ ap (λ (es : List Event). delayed p es) (each_process p items h) ∙ sym (bursts_more p 0 items h))
      | false ↦ λ e. other_delayed p q (gathered items) e ∙ each_process p items h
    ] refl
each_process p (Other (Turn q n) ∷ items) h = absurd h
each_process p (Other (Enter q) ∷ items) h = ap (λ (es : List Event). if q == p then Enter q ∷ es else es) (each_process p items h)
each_process p (Other Cut ∷ items) h = each_process p items h
each_process p (Other (Complete at) ∷ items) h = each_process p items h
each_process p (Other (Fail at) ∷ items) h = each_process p items h

-- a Turn's place is as late after an instruction of another process as before
turns_delayed : (p : ℕ) (es : List Event) → are_turns (delayed p es) ≡ are_turns es
turns_delayed p [] = refl
turns_delayed p (Turn q n ∷ es) = elim (q == p) as (λ b. are_turns (if b then Turn q (n + 1) ∷ es else Turn q n ∷ delayed p es) ≡ are_turns es) [
  | true ↦ refl
  | false ↦ turns_delayed p es
]
turns_delayed p (Enter q ∷ es) = elim (q == p) as (λ b. are_turns (if b then Turn p 1 ∷ Enter q ∷ es else Enter q ∷ delayed p es) ≡ false) [
  | true ↦ refl
  | false ↦ refl
]
turns_delayed p (Cut ∷ es) = refl
turns_delayed p (Complete at ∷ es) = refl
turns_delayed p (Fail at ∷ es) = refl

enters_delayed : (p q : ℕ) (es : List Event) → (q == p) ≡ false → enters_first q (delayed p es) ≡ enters_first q es
enters_delayed p q [] e = refl
enters_delayed p q (Turn r n ∷ es) e = elim (r == p) as (λ b. enters_first q (if b then Turn r (n + 1) ∷ es else Turn r n ∷ delayed p es) ≡ false) [
  | true ↦ refl
  | false ↦ refl
]
enters_delayed p q (Enter r ∷ es) e = elim (r == p) as (λ b. (r == p) ≡ b → enters_first q (if b then Turn p 1 ∷ Enter r ∷ es else Enter r ∷ delayed p es) ≡ (r == q)) [
  | true ↦ λ d. sym (ne_eqb r q (λ same. eqb-false q p e (sym same ∙ eqb-true r p d)))
  | false ↦ λ d. refl
] refl
enters_delayed p q (Cut ∷ es) e = refl
enters_delayed p q (Complete at ∷ es) e = refl
enters_delayed p q (Fail at ∷ es) e = refl

late_delayed : (p : ℕ) (es : List Event) → HasLateTurns es → HasLateTurns (delayed p es)
late_delayed p [] h = (refl, tt)
late_delayed p (Turn q n ∷ es) h = elim (q == p) as (λ b. (q == p) ≡ b → HasLateTurns (if b then Turn q (n + 1) ∷ es else Turn q n ∷ delayed p es)) [
  | true ↦ λ e. (h.0, h.1)
  | false ↦ λ e. (
    ap (λ (b : Bool). b || are_turns (delayed p es)) (enters_delayed p q es e) ∙ ap (λ (b : Bool). enters_first q es || b) (turns_delayed p es) ∙ h.0,
    late_delayed p es h.1,
  )
] refl
late_delayed p (Enter q ∷ es) h = elim (q == p) as (λ b. (q == p) ≡ b → HasLateTurns (if b then Turn p 1 ∷ Enter q ∷ es else Enter q ∷ delayed p es)) [
  | true ↦ λ e. (or_left (q == p) false e, h)
  | false ↦ λ e. late_delayed p es h
] refl
late_delayed p (Cut ∷ es) h = late_delayed p es h
late_delayed p (Complete at ∷ es) h = late_delayed p es h
late_delayed p (Fail at ∷ es) h = late_delayed p es h

late : (items : List Fine) → HasNoTurn items → HasLateTurns (gathered items)
late [] h = tt
late (Instruction p ∷ items) h = late_delayed p (gathered items) (late items h)
late (Other (Turn p n) ∷ items) h = absurd h
late (Other (Enter p) ∷ items) h = late items h
late (Other Cut ∷ items) h = late items h
late (Other (Complete at) ∷ items) h = late items h
late (Other (Fail at) ∷ items) h = late items h

pub is_gathered : (items : List Fine) → HasNoTurn items → IsGathered items (gathered items)
is_gathered items h = record { others_stay = others_stay items h; each_process = λ p. each_process p items h; late = late items h }

-- a fine run has no Turn among its other events
pub no_turn : (w : World) (items : List Fine) → IsFine w items → HasNoTurn items
no_turn w [] h = tt
no_turn w (Instruction p ∷ items) h = no_turn (happens w (Turn p 1)) items h.1
no_turn w (Other (Turn p n) ∷ items) h = absurd h
no_turn w (Other (Enter p) ∷ items) h = no_turn (happens w (Enter p)) items h
no_turn w (Other Cut ∷ items) h = no_turn (happens w Cut) items h
no_turn w (Other (Complete at) ∷ items) h = no_turn (happens w (Complete at)) items h
no_turn w (Other (Fail at) ∷ items) h = no_turn (happens w (Fail at)) items h
