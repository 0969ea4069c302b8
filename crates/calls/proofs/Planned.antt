-- What holds of a row of the table holds of what the code finds, and of the plan that says the same.
use Rattle.std.proofs.Common.{◌≡◌, ◌≤◌, inr, ℕ, List, length, Option, Some, None, Result, Ok, Err, IfOk, IfSome, sym, ap, ◌∙◌, subst, arith}
use Rattle.std.proofs.lemmas.List.{length-map}
use Rattle.std.specs.declared.alloc.AllocError.{AllocError}
use Rattle.disk_model.specs.Files.{IsPossible}
use Rattle.disk_model.specs.Numbers.{Numbered}
use Rattle.kernel_model.specs.Rows.{CallEffect, closing}
use Rattle.kernel_model.specs.Steps.{change_by}
use Rattle.kernel_model.specs.declared.carrier.Carrier.{Carrier}
use Rattle.kernel_model.specs.declared.descriptor.PipeEnd.{PipeEnd}
use Rattle.kernel_model.specs.declared.effect.FileEdit.{FileEdit}
use Rattle.kernel_model.specs.declared.effect.Output.{Output}
use Rattle.kernel_model.specs.declared.effect.PipeStep.{PipeStep}
use Rattle.kernel_model.specs.declared.effect.PipeStep.TheVariants.{Drop}
use Rattle.kernel_model.specs.declared.effect.Slot.{Slot}
use Rattle.kernel_model.specs.declared.effect.TapeRead.{TapeRead}
use Rattle.kernel_model.specs.declared.request.Verdict.{Verdict}
use Rattle.kernel_model.specs.declared.request.Verdict.TheVariants.{Waits, Replies, Ends}
use Rattle.calls.specs.declared.plan.CallPlan.{CallPlan}
use Rattle.calls.specs.declared.row.CallRow.{CallRow}
use Rattle.calls.specs.Plans.{IsRow, effect_of, effect_with, CarriesBytes, MayAllStep, OpensAlone, EditsPipesAlone, EditsAs}
use Rattle.pipes.specs.Seen.{Seen}
use Rattle.calls.proofs.Stepping.{drops-may, drops-open-none}
use Rattle.calls.proofs.Sound.{MayBeMade, EditsLittle, EditsWhere}

-- the row of the table is what the code finds
pub is-effect : (row : CallRow) (e : CallEffect) → IsRow row e → e ≡ effect_of row
is-effect row e is =
    let e1 : CallEffect = record e { verdict = row.verdict } in
    let e2 : CallEffect = record e1 { reads = row.reads.items } in
    let e3 : CallEffect = record e2 { writes = row.writes.items } in
    let e4 : CallEffect = record e3 { edit = row.edit } in
    let e5 : CallEffect = record e4 { output = row.output } in
    let e6 : CallEffect = record e5 { tape = row.tape } in
    let e7 : CallEffect = record e6 { pipes = row.pipes.items } in
    let e8 : CallEffect = record e7 { slots = row.slots.items } in
    let e9 : CallEffect = record e8 { child = row.child } in
    ap (λ (x : Verdict). record e { verdict = x }) (sym is.verdict)
    ∙ ap (λ (x : List Carrier). record e1 { reads = x }) (sym is.reads)
    ∙ ap (λ (x : List Carrier). record e2 { writes = x }) (sym is.writes)
    ∙ ap (λ (x : Option FileEdit). record e3 { edit = x }) (sym is.edit)
    ∙ ap (λ (x : Option Output). record e4 { output = x }) (sym is.output)
    ∙ ap (λ (x : Option TapeRead). record e5 { tape = x }) (sym is.tape)
    ∙ ap (λ (x : List PipeStep). record e6 { pipes = x }) (sym is.pipes)
    ∙ ap (λ (x : List Slot). record e7 { slots = x }) (sym is.slots)
    ∙ ap (λ (x : Option ℕ). record e8 { child = x }) (sym is.child)
    ∙ ap (λ (x : Option ℕ). record e9 { collects = x }) (sym is.collects)

-- what follows for every row follows for one that may be refused
pub if_found : (r : Result CallRow AllocError) (P Q : CallRow → Type 0) → ((row : CallRow) → P row → Q row) → IfOk r P → IfOk r Q
if_found (Err why) P Q more h = tt
if_found (Ok row) P Q more h = more row h

-- an edit that carries bytes is made by a change that is possible
pub both_planned : (files : Numbered) (o : Option FileEdit) → IfSome o (MayBeMade files) → IfSome o CarriesBytes
    → IfSome (change_by files o) (IsPossible files.living)
both_planned files None h bytes = tt
both_planned files (Some x) h bytes = h bytes

alone : (plan : CallPlan) (o : Option FileEdit) → plan.change ≡ None → EditsLittle (effect_with plan o) → EditsPipesAlone plan
alone plan o none h = record { change = none; output = h.output; tape = h.tape; slots = h.slots; child = h.child; collects = h.collects }

-- where no edit is made, no change is
no-change : (plan : CallPlan) (files : Numbered) (o : Option FileEdit) → plan.change ≡ change_by files o → o ≡ None → plan.change ≡ None
no-change plan files o is none = is ∙ ap (change_by files) none

-- what a plan edits, by what it tells
pub edits-as : (plan : CallPlan) (files : Numbered) (o : Option FileEdit) (verdict : Verdict) → plan.change ≡ change_by files o
    → EditsWhere verdict (effect_with plan o) → EditsAs verdict plan
edits-as plan files o Waits is h = (alone plan o (no-change plan files o is h.0.edit) h.0, h.1)
edits-as plan files o (Replies reply) is h = tt
edits-as plan files o (Ends status) is h = alone plan o (no-change plan files o is h.edit) h

-- ---- a plan that ends its caller, with these ends of pipes

-- what a row without an edit says, its plan says
pub plain-plan : (row : CallRow) (plan : CallPlan) (e : CallEffect) → IsRow row e → e.edit ≡ None → effect_with plan row.edit ≡ effect_of row
    → effect_with plan None ≡ e
plain-plan row plan e is none says =
    ap (λ (o : Option FileEdit). effect_with plan o) (sym (is.edit ∙ none)) ∙ says ∙ sym (is-effect row e is)

pub ending-edits : (plan : CallPlan) (ends : List PipeEnd) (status : ℕ) → plan.change ≡ None → effect_with plan None ≡ closing ends (Ends status)
    → EditsAs plan.verdict plan
ending-edits plan ends status none is =
    subst (λ (verdict : Verdict). EditsAs verdict plan) (sym (ap (λ (e : CallEffect). e.verdict) is)) (record {
      change = none;
      output = ap (λ (e : CallEffect). e.output) is;
      tape = ap (λ (e : CallEffect). e.tape) is;
      slots = ap (λ (e : CallEffect). e.slots) is;
      child = ap (λ (e : CallEffect). e.child) is;
      collects = ap (λ (e : CallEffect). e.collects) is;
    })

pub ending-steps : (plan : CallPlan) (ends : List PipeEnd) (status : ℕ) → effect_with plan None ≡ closing ends (Ends status) → (seen : List Seen)
    → MayAllStep seen plan.pipes.items
ending-steps plan ends status is seen = subst (MayAllStep seen) (sym (ap (λ (e : CallEffect). e.pipes) is)) (drops-may ends seen)

pub ending-opens : (plan : CallPlan) (ends : List PipeEnd) (status : ℕ) → effect_with plan None ≡ closing ends (Ends status) → OpensAlone plan.pipes.items
ending-opens plan ends status is = subst OpensAlone (sym (ap (λ (e : CallEffect). e.pipes) is)) (inr (drops-open-none ends))

pub ending-few : (plan : CallPlan) (ends : List PipeEnd) (status : ℕ) → effect_with plan None ≡ closing ends (Ends status) → length ends ≤ 16
    → length plan.pipes.items ≤ 16
ending-few plan ends status is few =
    let size : length plan.pipes.items ≡ length ends = ap (λ (e : CallEffect). length e.pipes) is ∙ length-map ends Drop in
    omega (arith, few, size)
