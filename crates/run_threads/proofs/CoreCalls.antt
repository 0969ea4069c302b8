-- The calls in notes, of which there is one more.
use Rattle.std.proofs.Common.{◌≡◌, ℕ, Bool, true, false, Option, Result, Ok, Err, List, [], ◌∷◌, ◌++◌, append-nil, append_assoc, refl, sym, ap, ◌∙◌}
use Rattle.std.specs.Prelude.{if◌then◌else◌, OnErr}
use Rattle.kernel_model.specs.declared.answer.Answer.{Answer}
use Rattle.kernel_model.specs.declared.answer.Refused.{Refused}
use Rattle.kernel_model.specs.declared.event.Event.{Event}
use Rattle.kernel_model.specs.declared.event.Event.TheVariants as event
use Rattle.run_threads.specs.declared.note.Note.{Note}
use Rattle.run_threads.specs.declared.note.Note.TheVariants as note_of
use Rattle.durable_disk.specs.Stages.{call_of_end}
use Rattle.durable_disk.specs.declared.core_call.CoreCall.{CoreCall}
use Rattle.run_threads.specs.Records.{Record, noted}
use Rattle.run_threads.specs.CoreCalls.{call_of, calls_in}

added : (ns : List Note) (n : Note) → calls_in (ns ++ n ∷ []) ≡ calls_in ns ++ call_of n
added [] n = append-nil (call_of n)
added (m ∷ ns) n = ap (λ (cs : List CoreCall). call_of m ++ cs) (added ns n) ∙ sym (append_assoc (call_of m) (calls_in ns) (call_of n))

pub one_more : (old new : List Note) (n : Note) → new ≡ old ++ n ∷ [] → calls_in new ≡ calls_in old ++ call_of n
one_more old new n is = ap calls_in is ∙ added old n

-- a note of no call
pub untold : (old new : List Note) (n : Note) → call_of n ≡ [] → new ≡ old ++ n ∷ [] → calls_in new ≡ calls_in old
untold old new n none is = one_more old new n is ∙ ap (λ (cs : List CoreCall). calls_in old ++ cs) none ∙ append-nil (calls_in old)

-- ---- what is asked of a desk beside ends of writes
pub none_first : (r s : Record) (o : Option ℕ) → s ≡ noted r (note_of.First o) → calls_in s.notes ≡ calls_in r.notes
none_first r s o is = untold r.notes s.notes (note_of.First o) refl (ap (λ (x : Record). x.notes) is)

pub none_wanted : (r s : Record) (b : Bool) → s ≡ noted r (note_of.WantsCut b) → calls_in s.notes ≡ calls_in r.notes
none_wanted r s b is = untold r.notes s.notes (note_of.WantsCut b) refl (ap (λ (x : Record). x.notes) is)

pub none_stopped : (r s : Record) → s ≡ noted r note_of.Stopped → calls_in s.notes ≡ calls_in r.notes
none_stopped r s is = untold r.notes s.notes note_of.Stopped refl (ap (λ (x : Record). x.notes) is)

pub none_cut : (old new : List Note) (result : Result Answer Refused) → new ≡ old ++ note_of.Applied event.Cut result ∷ [] → calls_in new ≡ calls_in old
none_cut old new result is = untold old new (note_of.Applied event.Cut result) refl is

-- ---- the end of a write that was told, and accepted
told_as : (b : Bool) (at : ℕ) (a : Answer) → call_of (note_of.Applied (if b then event.Complete at else event.Fail at) (Ok a)) ≡ call_of_end b at ∷ []
told_as true at a = refl
told_as false at a = refl

pub end_told : (old new : List Note) (e : Event) (r : Result Answer Refused) (a : Answer) (b : Bool) (at : ℕ) → new ≡ old ++ note_of.Applied e r ∷ []
    → e ≡ (if b then event.Complete at else event.Fail at) → r ≡ Ok a → calls_in new ≡ calls_in old ++ call_of_end b at ∷ []
end_told old new e r a b at is end accepted =
    one_more old new (note_of.Applied e r) is
    ∙ ap (λ (n : Note). calls_in old ++ call_of n) (λ i. note_of.Applied (end i) (accepted i))
    ∙ ap (λ (cs : List CoreCall). calls_in old ++ cs) (told_as b at a)

-- nothing is told where it is refused
refused_as : (e : Event) (why : Refused) → call_of (note_of.Applied e (Err why)) ≡ []
refused_as (event.Turn pid n) why = refl
refused_as (event.Enter pid) why = refl
refused_as event.Cut why = refl
refused_as (event.Complete at) why = refl
refused_as (event.Fail at) why = refl

pub end_refused : (old new : List Note) (e : Event) (r : Result Answer Refused) (why : Refused) → new ≡ old ++ note_of.Applied e r ∷ [] → r ≡ Err why
    → calls_in new ≡ calls_in old
end_refused old new e r why is refused =
    untold old new (note_of.Applied e r) (ap (λ (x : Result Answer Refused). call_of (note_of.Applied e x)) refused ∙ refused_as e why) is

-- what stays where a call was refused
pub on_err : {T E P : Type 0} (r : Result T E) → P → OnErr r P
on_err (Ok a) p = tt
on_err (Err why) p = p
