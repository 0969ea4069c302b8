-- What a plan says comes of an Enter.
use Rattle.std.proofs.Common.{◌≡◌, ℕ, zero, suc, ◌+◌, ◌≤◌, inl, not, if◌then◌else◌, List, [], ◌∷◌, ◌++◌, length, map, filter, slice_get, Option, Some, None, is_some, option_to_list, IfSome, IfOk, Result, Ok, Err, refl, sym, ap, subst, ◌∙◌}
use Rattle.std.proofs.lemmas.List.{append-nil}
use Rattle.disk_model.specs.Files.{IsPossible}
use Rattle.disk_model.specs.declared.change.Change.{Change}
use Rattle.machine_model.specs.States.{State, stopped_at, next, by_step, Stepped, Goes, Halts}
use Rattle.machine_model.specs.Replies.{replied}
use Rattle.machine_model.specs.declared.stop.Stop.{Stop}
use Rattle.machine_model.specs.declared.stop.Stop.TheVariants.{Limit, Call, Trap}
use Rattle.machine_model.specs.declared.stop.Cause.{Cause}
use Rattle.machine_model.proofs.Halting.{next-not_limit}
use Rattle.calls.specs.Plans.{effect_with, Says, AreLeft, OpensAlone, MayBePlaced, EditsAs, EditsPipesAlone, IsNext, MayAllStep}
use Rattle.calls.specs.Sights.{Sight, IsSightOfShared, PlansCall}
use Rattle.calls.specs.declared.plan.CallPlan.{CallPlan}
use Rattle.processes.specs.Parts.{Part, part_of, part_at, descriptors_in, children_in, statuses_of}
use Rattle.kernel_model.specs.State.{SyncState, Shared as Seen, PipeState, Process, shared, process_at, put_process, changed_by, read_by, all_stepped}
use Rattle.kernel_model.specs.Requests.{request_of}
use Rattle.machine_model.specs.Numbers.{cause_number}
use Rattle.kernel_model.specs.Rows.{CallEffect, row, row_end, number}
use Rattle.kernel_model.specs.Steps.{Transition, change_by, step, after_enter, impossible, effect_at, set_slots, children_after, is_collected, forked, after_effect, after_effect_if}
use Rattle.kernel_model.specs.declared.carrier.Carrier.TheVariants.{Proc}
use Rattle.kernel_model.specs.declared.descriptor.Descriptor.{Descriptor}
use Rattle.kernel_model.specs.declared.effect.FileEdit.{FileEdit}
use Rattle.kernel_model.specs.declared.effect.Output.{Output}
use Rattle.kernel_model.specs.declared.effect.PipeStep.{PipeStep}
use Rattle.kernel_model.specs.declared.effect.TapeRead.{TapeRead}
use Rattle.kernel_model.specs.declared.event.Event.TheVariants.{Enter}
use Rattle.kernel_model.specs.declared.request.Request.{Request}
use Rattle.kernel_model.specs.declared.request.Verdict.{Verdict}
use Rattle.kernel_model.specs.declared.request.Verdict.TheVariants.{Waits, Replies, Ends}
use Rattle.kernel_model.proofs.Limits.{put_same}
use Rattle.kernel_step.specs.Entering.{IsSightOf, HaveRoom, item_of, machine_after, descriptors_after, status_after, writes_of, MayBeTold, planned, PlansEnter}

-- ---- what comes of an effect is what the plan says
abbrev planned_told : SyncState → ℕ → Process → CallPlan → Verdict → Transition
planned_told s pid p plan verdict = record {
  state = record {
    processes = put_process s.processes pid (record {
      state = machine_after p.state verdict;
      descriptors = descriptors_after p.descriptors verdict plan.slots.items;
      children = children_after p.children (effect_with plan None);
      status = status_after verdict p.status;
    }) ++ forked p plan.child;
    files = changed_by s.files plan.change;
    pipes = all_stepped s.pipes plan.pipes.items;
    tapes = read_by s.tapes plan.tape;
  };
  entry = record {
    process = pid;
    reads = Proc pid ∷ plan.reads.items;
    writes = writes_of pid verdict plan.writes.items;
    change = plan.change;
    output = plan.output;
    item = item_of verdict;
    child = plan.child;
  };
}

pub all-kept : (cs : List ℕ) → filter (λ child. not (is_collected None child)) cs ≡ cs
all-kept [] = refl
all-kept (c ∷ cs) = ap (λ xs. c ∷ xs) (all-kept cs)

children-kept : (cs : List ℕ) → filter (λ child. not (is_collected None child)) cs ++ [] ≡ cs
children-kept cs = append-nil (filter (λ child. not (is_collected None child)) cs) ∙ all-kept cs

-- the edits are these
abbrev edited : SyncState → ℕ → Process → CallPlan → Verdict → Option Change → Option Output → Option TapeRead → List PipeStep → Option ℕ → Option ℕ → Transition
edited s pid p plan verdict change output tape pipes child collects = record {
  state = record {
    processes = put_process s.processes pid (record {
      state = machine_after p.state verdict;
      descriptors = descriptors_after p.descriptors verdict plan.slots.items;
      children = filter (λ other. not (is_collected collects other)) p.children ++ option_to_list child;
      status = status_after verdict p.status;
    }) ++ forked p child;
    files = changed_by s.files change;
    pipes = all_stepped s.pipes pipes;
    tapes = read_by s.tapes tape;
  };
  entry = record {
    process = pid;
    reads = Proc pid ∷ plan.reads.items;
    writes = writes_of pid verdict plan.writes.items;
    change = change;
    output = output;
    item = item_of verdict;
    child = child;
  };
}

pipes-alone : (s : SyncState) (pid : ℕ) (p : Process) (plan : CallPlan) (verdict : Verdict) (pipes : List PipeStep) → EditsPipesAlone plan → plan.pipes.items ≡ pipes
    → edited s pid p plan verdict None None None pipes None None ≡ planned_told s pid p plan verdict
pipes-alone s pid p plan verdict pipes h steps =
    ap (λ c. edited s pid p plan verdict c None None pipes None None) (sym h.change)
    ∙ ap (λ o. edited s pid p plan verdict plan.change o None pipes None None) (sym h.output)
    ∙ ap (λ t. edited s pid p plan verdict plan.change plan.output t pipes None None) (sym h.tape)
    ∙ ap (λ x. edited s pid p plan verdict plan.change plan.output plan.tape x None None) (sym steps)
    ∙ ap (λ c. edited s pid p plan verdict plan.change plan.output plan.tape plan.pipes.items c None) (sym h.child)
    ∙ ap (λ c. edited s pid p plan verdict plan.change plan.output plan.tape plan.pipes.items plan.child c) (sym h.collects)

told-planned : (s : SyncState) (pid : ℕ) (p : Process) (plan : CallPlan) (edit : Option FileEdit) (verdict : Verdict) → plan.change ≡ change_by s.files edit
    → EditsAs verdict plan → process_at s.processes pid ≡ Some p → p.status ≡ None
    → after_effect s pid p (effect_with plan edit) verdict ≡ planned_told s pid p plan verdict
told-planned s pid p plan edit Waits placed edits there running =
    let same : put_process s.processes pid (record p { children = filter (λ other. not (is_collected None other)) p.children ++ [] }) ++ [] ≡ s.processes =
    append-nil (put_process s.processes pid (record p { children = filter (λ other. not (is_collected None other)) p.children ++ [] }))
    ∙ ap (λ (cs : List ℕ). put_process s.processes pid (record p { children = cs })) (children-kept p.children)
    ∙ put_same s.processes pid p there in
    ap (λ (ps : List Process). record {
      state = record { processes = ps; files = s.files; pipes = s.pipes; tapes = s.tapes };
      entry = record { process = pid; reads = Proc pid ∷ plan.reads.items; writes = []; change = None; output = None; item = None; child = None };
    }) (sym same)
    ∙ pipes-alone s pid p plan Waits [] edits.0 edits.1
told-planned s pid p plan edit (Replies r) placed edits there running =
    ap (λ (c : Option Change). replied_as None c) (sym placed) ∙ ap (λ (o : Option ℕ). replied_as o plan.change) (sym running)
  where
    -- the state and the entry after a reply, with this status and this change
    replied_as : Option ℕ → Option Change → Transition
    replied_as o c = record {
      state = record {
        processes = put_process s.processes pid (record {
          state = replied p.state r;
          descriptors = set_slots p.descriptors plan.slots.items;
          children = children_after p.children (effect_with plan None);
          status = o;
        }) ++ forked p plan.child;
        files = changed_by s.files c;
        pipes = all_stepped s.pipes plan.pipes.items;
        tapes = read_by s.tapes plan.tape;
      };
      entry = record {
        process = pid;
        reads = Proc pid ∷ plan.reads.items;
        writes = Proc pid ∷ plan.writes.items;
        change = c;
        output = plan.output;
        item = item_of (Replies r);
        child = plan.child;
      };
    }
told-planned s pid p plan edit (Ends status) placed edits there running =
    let ended : List ℕ → Process = λ cs. record { state = p.state; descriptors = map (λ d. None) p.descriptors; children = cs; status = Some status } in
    let same : put_process s.processes pid (ended (filter (λ other. not (is_collected None other)) p.children ++ [])) ++ [] ≡ put_process s.processes pid (ended p.children) =
    append-nil (put_process s.processes pid (ended (filter (λ other. not (is_collected None other)) p.children ++ [])))
    ∙ ap (λ (cs : List ℕ). put_process s.processes pid (ended cs)) (children-kept p.children) in
    ap (λ (ps : List Process). record {
      state = record { processes = ps; files = s.files; pipes = all_stepped s.pipes plan.pipes.items; tapes = s.tapes };
      entry = record {
        process = pid;
        reads = Proc pid ∷ plan.reads.items;
        writes = Proc pid ∷ plan.writes.items;
        change = None;
        output = None;
        item = item_of (Ends status);
        child = None;
      };
    }) (sym same)
    ∙ pipes-alone s pid p plan (Ends status) plan.pipes.items edits refl

-- the step of a process that is there and has not ended
step-by : (s : SyncState) (pid : ℕ) (p : Process) (plan : CallPlan) (e : CallEffect) → Says s.files plan e → EditsAs plan.verdict plan
    → process_at s.processes pid ≡ Some p → p.status ≡ None → effect_at (shared s) pid p (stopped_at p.state) ≡ Some e
    → step s (Enter pid) ≡ planned s pid p plan
step-by s pid p plan e says edits there running at =
    ap (λ (o : Option Process). after_enter s pid o) there
    ∙ ap (λ (o : Option ℕ). if is_some o then impossible pid s else after_effect_if s pid p (effect_at (shared s) pid p (stopped_at p.state))) running
    ∙ ap (λ (o : Option CallEffect). after_effect_if s pid p o) (at ∙ ap (λ (x : CallEffect). Some x) (sym says.row))
    ∙ told-planned s pid p plan e.edit plan.verdict says.change edits there running

-- ---- what is seen of the process
pub part-seen : (ps : List Process) (pid : ℕ) (p : Process) → process_at ps pid ≡ Some p → part_at (map part_of ps) pid ≡ Some (part_of p)
part-seen ps zero p e = cc
part-seen ps (suc k) p e = by ps k e
  where
    by : (xs : List Process) (i : ℕ) → slice_get xs i ≡ Some p → slice_get (map part_of xs) i ≡ Some (part_of p)
    by [] i e = cc
    by (x ∷ xs) zero e = let same : x ≡ p = cc in ap (λ (y : Process). Some (part_of y)) same
    by (x ∷ xs) (suc i) e = by xs i e

pub part-at : (state : SyncState) (seen : Sight) (pid : ℕ) (p : Process) → IsSightOf state seen → process_at state.processes pid ≡ Some p
    → part_at seen.parts pid ≡ Some (part_of p)
part-at state seen pid p sight there = ap (λ (parts : List Part). part_at parts pid) sight.parts ∙ part-seen state.processes pid p there

statuses : (ps : List Process) → map (λ (p : Process). p.status) ps ≡ statuses_of (map part_of ps)
statuses [] = refl
statuses (p ∷ ps) = ap (λ (xs : List (Option ℕ)). p.status ∷ xs) (statuses ps)

kept : (state : SyncState) (seen : Sight) → IsSightOf state seen → IsSightOfShared (shared state) seen
kept state seen sight = record {
  statuses = statuses state.processes ∙ ap (λ (parts : List Part). statuses_of parts) (sym sight.parts);
  files = sym sight.files;
  pipes = sight.pipes;
  tapes = sym sight.tapes;
}

-- ---- at a call
told-row : (s : State) (verdict : Verdict) → stopped_at s ≡ Some Call → MayBePlaced s.architectural.memory verdict → MayBeTold s verdict
told-row s Waits stands place = tt
told-row s (Replies r) stands place = (stands, place)
told-row s (Ends status) stands place = tt

-- what is seen, as a state that may be looked at
abbrev sight_shared : Sight → List PipeState → Seen
sight_shared seen pipes = record { statuses = statuses_of seen.parts; files = seen.files; pipes = pipes; tapes = seen.tapes }

pub call-plans : (seen : Sight) (pid : ℕ) (s : State) (plan : CallPlan) → stopped_at s ≡ Some Call → HaveRoom seen.pipes → PlansCall seen pid (request_of s) plan
    → PlansEnter seen pid s plan
call-plans seen pid s plan stands ends calls =
    let ds : List (Option Descriptor) = descriptors_in (part_at seen.parts pid) in
    let x : Seen = sight_shared seen ends.pipes in
    let look : IsSightOfShared x seen = record { statuses = refl; files = refl; pipes = ends.shown; tapes = refl } in
    record {
      goes = λ state p sight there state_is running.
          let part : part_at seen.parts pid ≡ Some (part_of p) = part-at state seen pid p sight there in
          step-by state pid p plan (row (shared state) pid ds (children_in (part_at seen.parts pid)) (request_of s)) (calls.says (shared state) (kept state seen sight)) calls.edits there running
          (ap (λ (o : Option Stop). effect_at (shared state) pid p o) (ap stopped_at state_is ∙ stands)
          ∙ ap (λ (o : Option Part). Some (row (shared state) pid (descriptors_in o) (children_in o) (request_of p.state))) (sym part)
          ∙ ap (λ (t : State). Some (row (shared state) pid ds (children_in (part_at seen.parts pid)) (request_of t))) state_is);
      verdict = told-row s plan.verdict stands (calls.place s refl);
      edits = calls.edits;
      one_child = calls.one_entry.child_or_collects;
      possible = calls.possible;
      left = calls.left;
      steps = record { kind = calls.opens; few = calls.few };
      may = calls.steps x ends.most look ends.few ends.room;
      child = calls.child;
    }

-- ---- at a trap
pub trap-plans : (seen : Sight) (pid : ℕ) (s : State) (plan : CallPlan) (cause : Cause) (status : ℕ)
    → stopped_at s ≡ Some (Trap cause) → status ≡ 256 + cause_number cause
    → effect_with plan None ≡ row_end (descriptors_in (part_at seen.parts pid)) status → plan.change ≡ None
    → EditsAs plan.verdict plan → OpensAlone plan.pipes.items → length plan.pipes.items ≤ 16 → MayAllStep seen.pipes plan.pipes.items
    → PlansEnter seen pid s plan
trap-plans seen pid s plan cause status stands number is none edits opens few may =
    let ds : List (Option Descriptor) = descriptors_in (part_at seen.parts pid) in
    record {
      goes = λ state p sight there state_is running.
          let part : part_at seen.parts pid ≡ Some (part_of p) = part-at state seen pid p sight there in
          step-by state pid p plan (row_end ds status) (record { row = is; change = none }) edits there running
          (ap (λ (o : Option Stop). effect_at (shared state) pid p o) (ap stopped_at state_is ∙ stands)
          ∙ ap (λ (o : Option Part). Some (row_end (descriptors_in o) (256 + cause_number cause))) (sym part)
          ∙ ap (λ n. Some (row_end ds n)) (sym number));
      verdict = subst (λ (v : Verdict). MayBeTold s v) (sym (ap (λ (e : CallEffect). e.verdict) is)) tt;
      edits = edits;
      one_child = inl (ap (λ (e : CallEffect). e.child) is);
      possible = subst (λ (o : Option Change). IfSome o (IsPossible seen.files.living)) (sym none) tt;
      left = subst (λ (o : Option TapeRead). IfSome o (AreLeft seen.tapes)) (sym (ap (λ (e : CallEffect). e.tape) is)) tt;
      steps = record { kind = opens; few = few };
      may = may;
      child = subst (λ (o : Option ℕ). IfSome o (IsNext (length seen.parts))) (sym (ap (λ (e : CallEffect). e.child) is)) tt;
    }

pub trap-result : {E : Type 0} (seen : Sight) (pid : ℕ) (s : State) (r : Result CallPlan E) (cause : Cause) (status : ℕ)
    → stopped_at s ≡ Some (Trap cause) → status ≡ 256 + cause_number cause
    → IfOk r (λ plan. effect_with plan None ≡ row_end (descriptors_in (part_at seen.parts pid)) status)
    → IfOk r (λ plan. plan.change ≡ None)
    → IfOk r (λ plan. EditsAs plan.verdict plan)
    → IfOk r (λ plan. OpensAlone plan.pipes.items)
    → IfOk r (λ plan. length plan.pipes.items ≤ 16)
    → IfOk r (λ plan. MayAllStep seen.pipes plan.pipes.items)
    → IfOk r (λ plan. PlansEnter seen pid s plan)
trap-result seen pid s (Ok plan) cause status stands number is none edits opens few may = trap-plans seen pid s plan cause status stands number is none edits opens few may
trap-result seen pid s (Err e) cause status stands number is none edits opens few may = tt

-- a state that stands somewhere, and at no trap, stands at a call
pub stands-call : (s : State) (stop : Stop) → stopped_at s ≡ Some stop → ((c : Cause) → stop ≡ Trap c → ⊥) → stop ≡ Call
stands-call s Call h none = refl
stands-call s (Trap c) h none = absurd (none c refl)
stands-call s Limit h none = by (next s) refl h
  where
    by : (n : Stepped) → next s ≡ n → by_step n (λ t. None) (λ stop. Some stop) ≡ Some Limit → Limit ≡ Call
    by (Goes t) is at = cc
    by (Halts stop) is at = absurd (next-not_limit s (is ∙ (let same : stop ≡ Limit = cc in ap (λ (x : Stop). Halts x) same)))

-- the same of a result
pub result-plans : {E : Type 0} (seen : Sight) (pid : ℕ) (s : State) (r : Result CallPlan E) (request : Request)
    → stopped_at s ≡ Some Call → request ≡ request_of s → HaveRoom seen.pipes → IfOk r (λ plan. PlansCall seen pid request plan)
    → IfOk r (λ plan. PlansEnter seen pid s plan)
result-plans seen pid s (Ok plan) request stands asks ends calls =
    call-plans seen pid s plan stands ends (subst (λ (q : Request). PlansCall seen pid q plan) asks calls)
result-plans seen pid s (Err e) request stands asks ends calls = tt
