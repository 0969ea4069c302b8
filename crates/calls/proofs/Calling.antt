-- A plan that says the row of a request is what the request comes to, and may be done.
use Rattle.std.proofs.Common.{◌≡◌, ◌∙◌, ◌≤◌, ℕ, List, length, Option, IfSome, sym, ap, subst, arith}
use Rattle.std.proofs.lemmas.List.{length-map}
use Rattle.disk_model.specs.Files.{IsPossible}
use Rattle.disk_model.specs.Numbers.{Numbered}
use Rattle.disk_model.specs.declared.change.Change.{Change}
use Rattle.kernel_model.specs.State.{changed_by}
use Rattle.kernel_model.specs.Steps.{set_slots}
use Rattle.kernel_model.specs.declared.descriptor.Descriptor.{Descriptor}
use Rattle.kernel_model.specs.declared.request.Request.{Request}
use Rattle.kernel_model.proofs.Asked.{IsAsked, asked_by}
use Rattle.processes.specs.Parts.{Part, part_at, descriptors_in, children_in, statuses_of}
use Rattle.calls.specs.Plans.{IsRow, IsNext, CarriesBytes, NamesFiles, Says, effect_of, effect_with}
use Rattle.calls.specs.Sights.{Sight, row_from, MayPlanCall, PlansCall}
use Rattle.kernel_model.specs.Wholes.{IsWhole}
use Rattle.calls.specs.declared.plan.CallPlan.{CallPlan}
use Rattle.calls.specs.declared.row.CallRow.{CallRow}
use Rattle.calls.proofs.Sound.{Kept, IsFine, IsSound, named-after, row-sound}
use Rattle.calls.proofs.Seeing.{row-kept}
use Rattle.calls.proofs.Stepping.{few-shown}
use Rattle.calls.proofs.Planned.{is-effect, both_planned, edits-as}

pub planned-call : (seen : Sight) (pid : ℕ) (request : Request) (ds : List (Option Descriptor)) (found : CallRow) (plan : CallPlan)
    → MayPlanCall seen pid → IsWhole request → ds ≡ descriptors_in (part_at seen.parts pid) → length ds ≤ 16
    → IsRow found (row_from seen pid ds request) → IfSome found.edit CarriesBytes → Says seen.files plan (effect_of found)
    → PlansCall seen pid request plan
planned-call seen pid request ds found plan may whole same few is carries says =
    let own : List (Option Descriptor) = descriptors_in (part_at seen.parts pid) in
    let children : List ℕ = children_in (part_at seen.parts pid) in
    let statuses : List (Option ℕ) = statuses_of seen.parts in
    let k : Kept = record {
      statuses = statuses;
      files = seen.files;
      seen = seen.pipes;
      tapes = seen.tapes;
      descriptors = own;
      children = children;
    } in
    let at : row_from seen pid own request ≡ effect_of found =
    ap (λ (xs : List (Option Descriptor)). row_from seen pid xs request) (sym same) ∙ is-effect found (row_from seen pid ds request) is in
    let with_edit : row_from seen pid own request ≡ effect_with plan found.edit = at ∙ sym says.row in
    let fine : IsFine k request = record { few = may.few; numbered = may.numbered; named = may.named; whole = whole } in
    let sound : IsSound k request (effect_with plan found.edit) =
    subst (IsSound k request) with_edit (row-sound k pid request fine) in
    let size : length own ≡ length ds = ap length (sym same) in
    let count : length statuses ≡ length seen.parts = length-map seen.parts (λ (part : Part). part.status) in
    record {
      says = λ s shown.
          let as_row : Says s.files plan (effect_of found) = subst (λ (fs : Numbered). Says fs plan (effect_of found)) (sym shown.files) says in
          subst (Says s.files plan) (sym at ∙ row-kept s statuses seen.files seen.pipes seen.tapes pid own children request shown) as_row;
      one_entry = sound.one_entry;
      opens = sound.opens;
      few = sound.few (omega (arith, size, few));
      edits = edits-as plan seen.files found.edit plan.verdict says.change sound.edits;
      possible = subst (λ (o : Option Change). IfSome o (IsPossible seen.files.living)) (sym says.change)
          (both_planned seen.files found.edit sound.possible carries);
      named = subst (λ (o : Option Change). NamesFiles (changed_by seen.files o).made (set_slots own plan.slots.items)) (sym says.change)
          (named-after k request (effect_with plan found.edit) sound may.named);
      left = sound.left;
      steps = λ s n shown most room. sound.steps n (omega (arith, size, few, room)) (few-shown n s.pipes seen.pipes shown.pipes most);
      child = subst (λ (n : ℕ). IfSome plan.child (IsNext n)) count sound.child;
      place = λ s asked. sound.placed s.architectural.memory (subst (IsAsked s.architectural.memory) (sym asked) (asked_by s));
    }
