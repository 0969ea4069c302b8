-- What events add to the totals of a history.
use Rattle.std.proofs.Common.{◌≡◌, ◌+◌, ◌∙◌, refl, sym, ap, subst, List, [], ◌∷◌, ◌++◌, length, Bool, true, false, is_some, Some, None, arith}
use Rattle.std.specs.Prelude.{if◌then◌else◌}
use Rattle.std.proofs.lemmas.List.{length-append}
use Rattle.std.proofs.lemmas.List.Sums.{sum_by-append}
use Rattle.kernel_model.proofs.Runs.{history-with_events}
use Rattle.machine_model.specs.States.{stopped_at}
use Rattle.kernel_model.specs.Answers.{Kernel, answer, entered, now, outcome_of, with_event}
use Rattle.kernel_model.specs.Loans.{LoanResult, returned, events_of, settled, settled_answer, outcome_after}
use Rattle.kernel_model.specs.Ran.{ran_by_turns, ran_in}
use Rattle.kernel_model.specs.Steps.{step}
use Rattle.kernel_model.specs.declared.answer.Answer.{Answer}
use Rattle.kernel_model.specs.declared.answer.Answer.TheVariants.{Settled}
use Rattle.kernel_model.specs.declared.answer.Outcome.{Outcome}
use Rattle.kernel_model.specs.declared.answer.Outcome.TheVariants as outcome
use Rattle.kernel_model.specs.declared.event.Event.{Event}
use Rattle.kernel_model.specs.declared.event.Event.TheVariants.{Turn, Enter, Cut, Complete, Fail}
use Rattle.kernel.specs.Keeping.{KeepsLimits}
use Rattle.kernel.specs.Sums.{process_of_turn, process_of_enter, sum_of_turns, sum_of_enters}
use Rattle.bursts.specs.declared.totals.Totals.{Totals}
use Rattle.bursts.specs.Totals.{plus, history_totals, settled_totals, event_totals, one_event, Fit}

-- these events add so much, where they ran so many instructions
adds : (k new : Kernel) (es : List Event) (by : Totals) → new.history ≡ k.history ++ es → length es ≡ by.events → sum_of_turns es ≡ by.turns
    → sum_of_enters es ≡ by.enters → ran_by_turns new ≡ ran_by_turns k + by.ran → plus (history_totals k) by ≡ history_totals new
adds k new es by is events turns enters ran = λ i. record {
  events = (ap (λ n. length k.history + n) (sym events) ∙ sym (length-append k.history es) ∙ sym (ap (λ (xs : List Event). length xs) is)) i;
  ran = sym ran i;
  turns = (ap (λ n. sum_of_turns k.history + n) (sym turns) ∙ sym (sum_by-append process_of_turn k.history es) ∙ sym (ap sum_of_turns is)) i;
  enters = (ap (λ n. sum_of_enters k.history + n) (sym enters) ∙ sym (sum_by-append process_of_enter k.history es) ∙ sym (ap sum_of_enters is)) i;
}

-- the events of a result, by whether the state reached stands at a call or a trap
events_add : (k new : Kernel) (r : LoanResult) (b : Bool) → is_some (stopped_at r.reached.state) ≡ b → new.history ≡ k.history ++ events_of r
    → ran_by_turns new ≡ ran_by_turns k + r.reached.count → plus (history_totals k) (settled_totals r.process (settled_answer k r)) ≡ history_totals new
events_add k new r true at is ran =
    let events : events_of r ≡ Turn r.process r.reached.count ∷ Enter r.process ∷ [] = ap (λ (b : Bool). Turn r.process r.reached.count ∷ (if b then Enter r.process ∷ [] else [])) at in
    let answered : settled_answer k r ≡ Settled r.reached.count r.reached.stop (Some (outcome_after k r.process r.reached.count))
    = ap (λ (b : Bool). Settled r.reached.count r.reached.stop (if b then Some (outcome_after k r.process r.reached.count) else None)) at in
    ap (λ a. plus (history_totals k) (settled_totals r.process a)) answered
    ∙ adds k new (Turn r.process r.reached.count ∷ Enter r.process ∷ []) (record { events = 2; ran = r.reached.count; turns = r.process; enters = r.process })
    (is ∙ ap (λ es. k.history ++ es) events) refl (omega arith) (omega arith) ran
events_add k new r false at is ran =
    let events : events_of r ≡ Turn r.process r.reached.count ∷ [] = ap (λ (b : Bool). Turn r.process r.reached.count ∷ (if b then Enter r.process ∷ [] else [])) at in
    let answered : settled_answer k r ≡ Settled r.reached.count r.reached.stop None
    = ap (λ (b : Bool). Settled r.reached.count r.reached.stop (if b then Some (outcome_after k r.process r.reached.count) else None)) at in
    ap (λ a. plus (history_totals k) (settled_totals r.process a)) answered
    ∙ adds k new (Turn r.process r.reached.count ∷ []) (record { events = 1; ran = r.reached.count; turns = r.process; enters = 0 })
    (is ∙ ap (λ es. k.history ++ es) events) refl (omega arith) (omega arith) ran

-- a result that is taken back adds what its answer says
pub result_adds : (k new : Kernel) (r : LoanResult) (a : Answer) (books by : Totals) → books ≡ history_totals k → new ≡ settled k r → a ≡ settled_answer k r
    → ran_by_turns new ≡ ran_by_turns k + r.reached.count → by ≡ settled_totals r.process a → plus books by ≡ history_totals new
result_adds k new r a books by here is answered ran sum =
    (λ i. plus (here i) ((sum ∙ ap (settled_totals r.process) answered) i))
    ∙ events_add k new r (is_some (stopped_at r.reached.state)) refl (ap (λ (x : Kernel). x.history) is ∙ history-with_events (returned k r.process) (events_of r)) ran

-- an Enter runs nothing
entered_ran : (o : Outcome) → ran_in (entered o) ≡ 0
entered_ran outcome.Entered = refl
entered_ran outcome.Waits = refl
entered_ran outcome.Ended = refl

-- an event that ran nothing
silent_adds : (k new : Kernel) (e : Event) (a : Answer) (by : Totals) → by.events ≡ 1 → by.ran ≡ 0 → process_of_turn e ≡ by.turns → process_of_enter e ≡ by.enters
    → ran_in (answer k e) ≡ 0 → a ≡ answer k e → new ≡ with_event k e → ran_by_turns new ≡ ran_by_turns k + ran_in a → plus (history_totals k) by ≡ history_totals new
silent_adds k new e a by one none turn enter still answered is ran =
    adds k new (e ∷ []) by (ap (λ (x : Kernel). x.history) is) (sym one) (omega (arith, turn)) (omega (arith, enter))
    (ran ∙ ap (λ n. ran_by_turns k + n) (ap ran_in answered ∙ still ∙ sym none))

one_more : (k new : Kernel) (e : Event) (a : Answer) → a ≡ answer k e → new ≡ with_event k e → ran_by_turns new ≡ ran_by_turns k + ran_in a
    → plus (history_totals k) (event_totals e a) ≡ history_totals new
one_more k new (Turn pid n) a answered is ran =
    adds k new (Turn pid n ∷ []) (event_totals (Turn pid n) a) (ap (λ (x : Kernel). x.history) is) refl (omega arith) (omega arith) ran
one_more k new (Enter pid) a answered is ran =
    silent_adds k new (Enter pid) a (event_totals (Enter pid) a) refl refl refl refl (entered_ran (outcome_of (step (now k).sync (Enter pid)).entry.item)) answered is ran
one_more k new Cut a answered is ran = silent_adds k new Cut a one_event refl refl refl refl refl answered is ran
one_more k new (Complete at) a answered is ran = silent_adds k new (Complete at) a one_event refl refl refl refl refl answered is ran
one_more k new (Fail at) a answered is ran = silent_adds k new (Fail at) a one_event refl refl refl refl refl answered is ran

-- an event that is accepted adds what its answer says
pub event_adds : (k new : Kernel) (e : Event) (a : Answer) (books by : Totals) → books ≡ history_totals k → a ≡ answer k e → new ≡ with_event k e
    → ran_by_turns new ≡ ran_by_turns k + ran_in a → by ≡ event_totals e a → plus books by ≡ history_totals new
event_adds k new e a books by here answered is ran sum = (λ i. plus (here i) (sum i)) ∙ one_more k new e a answered is ran

history_fits : (k : Kernel) → KeepsLimits k → Fit (history_totals k)
history_fits k h =
    let room = h.room in let ran = h.ran in let sums = h.sums in
    (omega (arith, room), omega (arith, ran), omega (arith, room, sums), omega (arith, room, sums))

-- the totals of a core's history are u64s
pub fits : (k : Kernel) (t : Totals) → KeepsLimits k → t ≡ history_totals k → Fit t
fits k t h is = subst Fit (sym is) (history_fits k h)
