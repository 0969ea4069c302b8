-- What an Enter does to the parts of a running kernel.
use Rattle.std.specs.Prelude.{◌≡◌, ℕ, ◌+◌, ◌^◌, ◌<◌, ◌≤◌, ◌⊎◌, true, List, [], ◌∷◌, ◌++◌, length, map, Option, Some, None, IfSome, option_map, option_to_list, slice_get}
use Rattle.std.specs.Global.{Box}
use Rattle.std.specs.List.{AllByRecursion}
use Rattle.std.specs.Option.{ForSome}
use Rattle.disk_model.specs.Files.{IsPossible}
use Rattle.disk_model.specs.Numbers.{Numbered}
use Rattle.memory_model.specs.Access.{is_writable}
use Rattle.machine_model.specs.States.{State, stopped_at}
use Rattle.machine_model.specs.Replies.{in_image, replied}
use Rattle.machine_model.specs.declared.stop.Stop.TheVariants.{Call}
use Rattle.calls.specs.Plans.{effect_with, AreLeft, EditsAs, IsNext, MayAllStep, OpensAlone, OpensNone, all_seen}
use Rattle.calls.specs.Sights.{Sight, MayPlanCall}
use Rattle.calls.specs.declared.plan.CallPlan.{CallPlan}
use Rattle.commit_deps.specs.Keeps.{Keeps}
use Rattle.commit_deps.specs.Marks.{IsMarkOf}
use Rattle.commit_deps.specs.Kept.{Kept, Marked}
use Rattle.footprints.specs.Kept.{footprint, Kept as KeptFootprints}
use Rattle.kernel_model.specs.Answers.{outcome_of}
use Rattle.kernel_model.specs.Entries.{Entry, Item, Got, End as Ended}
use Rattle.kernel_model.specs.Paths.{changes_in_log}
use Rattle.kernel_model.specs.State.{SyncState, Process, PipeState, new_pipe, process_at, put_process, changed_by, read_by, all_stepped}
use Rattle.kernel_model.specs.Steps.{Transition, step, set_slots, children_after, forked, zero_reply}
use Rattle.kernel_model.specs.declared.answer.Outcome.{Outcome}
use Rattle.kernel_model.specs.declared.carrier.Carrier.{Carrier}
use Rattle.kernel_model.specs.declared.carrier.Carrier.TheVariants.{Proc}
use Rattle.kernel_model.specs.declared.descriptor.Descriptor.{Descriptor}
use Rattle.kernel_model.specs.declared.effect.Output.{Output}
use Rattle.kernel_model.specs.declared.effect.PipeStep.{PipeStep}
use Rattle.kernel_model.specs.declared.effect.PipeStep.TheVariants.{Open}
use Rattle.kernel_model.specs.declared.effect.Slot.{Slot}
use Rattle.kernel_model.specs.declared.event.Event.TheVariants.{Enter}
use Rattle.kernel_model.specs.declared.request.Verdict.{Verdict}
use Rattle.kernel_model.specs.declared.request.Verdict.TheVariants.{Waits, Replies, Ends}
use Rattle.pipes.specs.Seen.{Seen, Shows, seen_of as seen_pipe}
use Rattle.pipes.specs.Stepping.{HasAtMost}
use Rattle.held_output.specs.Withheld.{Withheld, all_held, IsSame}
use Rattle.processes.specs.Parts.{Part, part_of, part_at, with_part, child_part}
use Rattle.kernel_step.specs.Seen.{AreScreens}
use Rattle.kernel_step.specs.Tasks.{machine_of, out_of}
use Rattle.kernel_step.specs.Waiting.{served_after, waited_after}
use Rattle.kernel_step.specs.declared.plan.EnterPlan.{EnterPlan}
use Rattle.kernel_step.specs.declared.system.System.{System}
use Rattle.kernel_step.specs.declared.task.Task.{Task}

-- ---- what a process is told, and what becomes of it

-- the item that tells it
abbrev pub item_of : Verdict → Option Item
item_of Waits = None
item_of (Replies r) = Some (Got r)
item_of (Ends status) = Some (Ended status)

-- its machine
abbrev pub machine_after : State → Verdict → State
machine_after s Waits = s
machine_after s (Replies r) = replied s r
machine_after s (Ends status) = s

-- the first state of the image by which it goes on, if its reply has one, with its count after the call
abbrev pub in_image_by : State → Verdict → Option State
in_image_by s Waits = None
in_image_by s (Replies r) = option_map (in_image s) r.image
in_image_by s (Ends status) = None

-- its descriptors
abbrev pub descriptors_after : List (Option Descriptor) → Verdict → List Slot → List (Option Descriptor)
descriptors_after ds Waits slots = ds
descriptors_after ds (Replies r) slots = set_slots ds slots
descriptors_after ds (Ends status) slots = map (λ d. None) ds

-- its status
abbrev pub status_after : Verdict → Option ℕ → Option ℕ
status_after Waits before = before
status_after (Replies r) before = before
status_after (Ends status) before = Some status

-- the carriers that its event writes, where these are those of its call: none where it has to wait
abbrev pub writes_of : ℕ → Verdict → List Carrier → List Carrier
writes_of pid Waits carriers = []
writes_of pid (Replies r) carriers = Proc pid ∷ carriers
writes_of pid (Ends status) carriers = Proc pid ∷ carriers

-- a process that stands here may be told this: at a call a reply whose bytes may be written at their place, or anything else
abbrev pub MayBeTold : State → Verdict → Type 0
MayBeTold s Waits = Unit {0}
MayBeTold s (Replies r) = (stopped_at s ≡ Some Call) × (is_writable s.architectural.memory r.at (length r.bytes) ≡ true)
MayBeTold s (Ends status) = Unit {0}

-- ---- what a plan comes to

-- what calls may look at, of what is shared
abbrev pub sight_in : System → Sight
sight_in s = record { parts = s.processes.parts; files = s.files; pipes = s.pipes; tapes = s.tapes }

-- this is seen of a state
pub record IsSightOf (state : SyncState) (seen : Sight) : Type 0 where
  pub parts : seen.parts ≡ map part_of state.processes
  pub files : seen.files ≡ state.files
  pub pipes : Shows state.pipes seen.pipes
  pub tapes : seen.tapes ≡ state.tapes

-- there may be 16 more descriptors for each end of these pipes
pub record HaveRoom (seen : List Seen) : Type 0 where
  pub pipes : List PipeState
  pub most : ℕ
  pub shown : Shows pipes seen
  pub few : AllByRecursion (HasAtMost most) pipes
  pub room : most + 16 < 2 ^ 64

-- a plan may be made for process pid: a call of its may be planned, and there is room for its descriptors once more
pub record MayPlan (seen : Sight) (pid : ℕ) : Type 0 where
  pub call : MayPlanCall seen pid
  pub ends : HaveRoom seen.pipes

-- the footprint of an Enter of process pid: the carriers that it reads beside its process, and those that it writes
abbrev pub footprint_of : ℕ → CallPlan → Entry
footprint_of pid plan = footprint plan.reads.items (writes_of pid plan.verdict plan.writes.items)

-- the entry of an Enter of process pid
abbrev pub entry_of : ℕ → CallPlan → Entry
entry_of pid plan = record {
  process = pid;
  reads = Proc pid ∷ plan.reads.items;
  writes = writes_of pid plan.verdict plan.writes.items;
  change = plan.change;
  output = plan.output;
  item = item_of plan.verdict;
  child = plan.child;
}

-- the process's part
abbrev pub part_after : Part → CallPlan → Part
part_after part plan = record {
  descriptors = descriptors_after part.descriptors plan.verdict plan.slots.items;
  children = children_after part.children (effect_with plan None);
  status = status_after plan.verdict part.status;
}

-- the process
abbrev pub process_after : Process → CallPlan → Process
process_after p plan = record {
  state = machine_after p.state plan.verdict;
  descriptors = (part_after (part_of p) plan).descriptors;
  children = (part_after (part_of p) plan).children;
  status = (part_after (part_of p) plan).status;
}

-- the process's part once it has made a child of this number or collected this one
abbrev pub family_of : Part → CallPlan → Part
family_of part plan = record part { children = children_after part.children (effect_with plan None) }

-- the part of the process that is made, if one is
abbrev pub born : Option Part → Option ℕ → List Part
born None child = []
born (Some part) None = []
born (Some part) (Some child) = child_part part ∷ []

-- all parts once it has
abbrev pub with_children : List Part → ℕ → CallPlan → List Part
with_children parts pid plan = with_part parts pid (part_at parts pid) (λ part. family_of part plan) ++ born (part_at parts pid) plan.child

-- all parts
abbrev pub parts_after : List Part → ℕ → CallPlan → List Part
parts_after parts pid plan = with_part parts pid (part_at parts pid) (λ part. part_after part plan) ++ born (part_at parts pid) plan.child

-- the state after it, and its entry
abbrev pub planned : SyncState → ℕ → Process → CallPlan → Transition
planned s pid p plan = record {
  state = record {
    processes = put_process s.processes pid (process_after p plan) ++ forked p plan.child;
    files = changed_by s.files plan.change;
    pipes = all_stepped s.pipes plan.pipes.items;
    tapes = read_by s.tapes plan.tape;
  };
  entry = entry_of pid plan;
}

-- the steps of one event: a pipe is made, or pipes that were made before are used, and each end at most 16 times
pub record AreSteps (steps : List PipeStep) : Type 0 where
  pub kind : OpensAlone steps
  pub few : length steps ≤ 16

-- The plan says what comes of the call or the trap at which process pid stands, which sees this. It does not both make a child
-- and collect one; and it reads no more of a tape than is left.
pub record PlansEnter (seen : Sight) (pid : ℕ) (s : State) (plan : CallPlan) : Type 0 where
  pub goes : (state : SyncState) (p : Process) → IsSightOf state seen → process_at state.processes pid ≡ Some p → p.state ≡ s → p.status ≡ None
      → step state (Enter pid) ≡ planned state pid p plan
  pub verdict : MayBeTold s plan.verdict
  pub edits : EditsAs plan.verdict plan
  pub one_child : (plan.child ≡ None) ⊎ (plan.collects ≡ None)
  pub possible : IfSome plan.change (IsPossible seen.files.living)
  pub left : IfSome plan.tape (AreLeft seen.tapes)
  pub steps : AreSteps plan.pipes.items
  pub may : MayAllStep seen.pipes plan.pipes.items
  pub child : IfSome plan.child (IsNext (length seen.parts))

-- the pipe that is to be made, if the first of these steps makes one
abbrev pub IsSpare : List PipeStep → Option Seen → Type 0
IsSpare steps None = AllByRecursion OpensNone steps
IsSpare steps (Some pipe) = (steps ≡ Open ∷ []) × (pipe ≡ seen_pipe new_pipe)

-- ---- the process that is made

-- the task of a process that is made, before it is told anything, where its parent's machine and trace are these
pub record IsNewChild (s : State) (parent : Withheld Item) (u : Task) : Type 0 where
  pub machine : machine_of u ≡ replied s zero_reply
  pub items : u.trace.items ≡ parent.items
  pub committed : u.trace.committed ≡ parent.committed
  pub waited : u.waited ≡ None
  pub loans : u.loans ≡ 0
  pub out : out_of u ≡ None
  pub room : 1 ≤ u.trace.room

-- the same, if one of this number is made
abbrev pub IsChild : Option ℕ → State → Withheld Item → Option Task → Type 0
IsChild number s parent None = number ≡ None
IsChild number s parent (Some u) = (number ≡ Some u.pid) × IsNewChild s parent u

-- the task in a box, if there is one
abbrev pub unboxed : Option (Box Task) → Option Task
unboxed o = option_map (λ b. b.value) o

-- the task once it is told 0, by an event of this mark
pub record IsForked (mark : ℕ) (s : State) (parent : Withheld Item) (u : Task) : Type 0 where
  pub machine : machine_of u ≡ replied s zero_reply
  pub items : u.trace.items ≡ parent.items ++ all_held mark (Got zero_reply ∷ [])
  pub committed : u.trace.committed ≡ parent.committed
  pub waited : u.waited ≡ None
  pub loans : u.loans ≡ 0
  pub out : out_of u ≡ None

-- the same, if one of this number is made
abbrev pub MakesTask : Option ℕ → ℕ → State → Withheld Item → Option Task → Type 0
MakesTask number mark s parent None = number ≡ None
MakesTask number mark s parent (Some u) = (number ≡ Some u.pid) × IsForked mark s parent u

-- ---- what is prepared

-- the plan of an Enter of process pid, where its machine and trace are these, all carriers that its event writes, the pipe and the
-- process that it makes, and the machine with which the process goes on where its reply has an image
pub record IsEntering (seen : Sight) (pid : ℕ) (s : State) (t : Withheld Item) (e : EnterPlan) : Type 0 where
  pub process : e.pid ≡ pid
  pub plan : PlansEnter seen pid s e.plan
  pub writes : e.writes.items ≡ (entry_of pid e.plan).writes
  pub spare : IsSpare e.plan.pipes.items e.spare
  pub child : IsChild e.plan.child s t (unboxed e.child)
  pub next : e.next ≡ in_image_by s e.plan.verdict

-- ---- what is done

-- the task after it was told this by an event of this mark, where so many Enters did not have to wait before
pub record IsTold (verdict : Verdict) (mark before : ℕ) (old new : Task) : Type 0 where
  pub pid : new.pid ≡ old.pid
  pub machine : machine_of new ≡ machine_after (machine_of old) verdict
  pub items : new.trace.items ≡ old.trace.items ++ all_held mark (option_to_list (item_of verdict))
  pub committed : new.trace.committed ≡ old.trace.committed
  pub waited : new.waited ≡ waited_after verdict before old.waited
  pub loans : new.loans ≡ old.loans
  pub out : out_of new ≡ out_of old

-- the same task, though there may be room for more
pub record IsSameTask (old new : Task) : Type 0 where
  pub pid : new.pid ≡ old.pid
  pub machine : machine_of new ≡ machine_of old
  pub trace : IsSame old.trace new.trace
  pub waited : new.waited ≡ old.waited
  pub loans : new.loans ≡ old.loans
  pub out : out_of new ≡ out_of old

-- the terminal of an output has room for its bytes
abbrev pub HasSpaceFor : Option Output → List (Withheld ℕ) → Type 0
HasSpaceFor None screens = Unit {0}
HasSpaceFor (Some out) screens = ForSome (slice_get screens out.terminal) (λ (s : Withheld ℕ). length out.bytes ≤ s.room)

-- these screens are still those of any log of which they were
abbrev pub StayScreens : List (Withheld ℕ) → List (Withheld ℕ) → Type 0
StayScreens old new = (c : ℕ) (log : List Entry) → AreScreens c log old → AreScreens c log new

-- the screens after one more event of this mark, which writes this
abbrev pub ArePrinted : Option Output → ℕ → List (Withheld ℕ) → List (Withheld ℕ) → Type 0
ArePrinted output mark old new =
    (c : ℕ) (log : List Entry) (e : Entry) → AreScreens c log old → IsMarkOf mark log e → e.output ≡ output → AreScreens c (log ++ e ∷ []) new

-- the files are these, and all else that is shared is the same, though there may be room for more
pub record IsSystemWith (held : Numbered) (old new : System) : Type 0 where
  pub marks : new.dependencies.marks ≡ old.dependencies.marks
  pub footprints : new.footprints.footprints ≡ old.footprints.footprints
  pub changes : new.changes.items ≡ old.changes.items
  pub files : new.files ≡ held
  pub tapes : new.tapes ≡ old.tapes
  pub pipes : new.pipes ≡ old.pipes
  pub parts : new.processes.parts ≡ old.processes.parts
  pub served : new.served ≡ old.served
  pub committer : new.committer ≡ old.committer
  pub screens : StayScreens old.screens.items new.screens.items

-- all that is shared is the same, though there may be room for more
abbrev pub IsSameSystem : System → System → Type 0
IsSameSystem old new = IsSystemWith old.files old new

-- The event of this entry is noted, and this is its mark: where the marks were those of a log of so many changes, they are those
-- of the log with the event.
pub record IsNoted (x : Entry) (count : ℕ) (old new : List Marked) (mark : ℕ) : Type 0 where
  pub says : (log : List Entry) → Keeps log old → length (changes_in_log log) ≡ count → IsMarkOf mark log x
  pub kept : (log : List Entry) → Keeps log old → length (changes_in_log log) ≡ count → Keeps (log ++ x ∷ []) new

-- The rest of an Enter whose change of the files is done, and whose event of this mark is noted: its output is written, its change
-- is kept, the tape that it reads is past what was read, the steps of its pipes are done, and so is what becomes of the processes.
pub record IsFinished (pid : ℕ) (plan : CallPlan) (mark : ℕ) (old new : System) : Type 0 where
  pub marks : new.dependencies ≡ old.dependencies
  pub footprints : new.footprints ≡ old.footprints
  pub changes : new.changes.items ≡ old.changes.items ++ option_to_list plan.change
  pub files : new.files ≡ old.files
  pub tapes : new.tapes ≡ read_by old.tapes plan.tape
  pub pipes : new.pipes ≡ all_seen old.pipes plan.pipes.items
  pub parts : new.processes.parts ≡ parts_after old.processes.parts pid plan
  pub served : new.served ≡ served_after plan.verdict old.served
  pub committer : new.committer ≡ old.committer
  pub screens : ArePrinted plan.output mark old.screens.items new.screens.items

-- An Enter that was prepared is carried out: its event is noted, and its footprint, the rest of it is done, the task was told what it
-- came to, and so was the process that it made, if it made one.
pub record IsCarriedOut (e : EnterPlan) (old new : Task) (before later : System) (outcome : Outcome) (child : Option Task) : Type 0 where
  pub mark : ℕ
  pub dependencies : Kept
  pub noted : IsNoted (entry_of e.pid e.plan) (length before.changes.items) before.dependencies.marks dependencies.marks mark
  pub footprints : KeptFootprints
  pub kept : footprints.footprints ≡ before.footprints.footprints ++ footprint_of e.pid e.plan ∷ []
  pub rest : IsFinished e.pid e.plan mark (record before { dependencies = dependencies; footprints = footprints }) later
  pub told : IsTold e.plan.verdict mark before.served old new
  pub made : (number : Option ℕ) (s : State) (parent : Withheld Item) → IsChild number s parent (unboxed e.child) → MakesTask number mark s parent child
  pub outcome_is : outcome ≡ outcome_of (item_of e.plan.verdict)

-- what is shared after an Enter, whose event has this mark
pub record IsEntered (pid : ℕ) (plan : CallPlan) (mark : ℕ) (old new : System) : Type 0 where
  pub noted : IsNoted (entry_of pid plan) (length old.changes.items) old.dependencies.marks new.dependencies.marks mark
  pub footprints : new.footprints.footprints ≡ old.footprints.footprints ++ footprint_of pid plan ∷ []
  pub changes : new.changes.items ≡ old.changes.items ++ option_to_list plan.change
  pub files : new.files ≡ changed_by old.files plan.change
  pub tapes : new.tapes ≡ read_by old.tapes plan.tape
  pub pipes : new.pipes ≡ all_seen old.pipes plan.pipes.items
  pub parts : new.processes.parts ≡ parts_after old.processes.parts pid plan
  pub served : new.served ≡ served_after plan.verdict old.served
  pub committer : new.committer ≡ old.committer
  pub screens : ArePrinted plan.output mark old.screens.items new.screens.items

-- an Enter of process pid is done: its task and what is shared are these, it came to this, and it made this process, if it made one
pub record IsDone (pid : ℕ) (old new : Task) (before later : System) (outcome : Outcome) (child : Option Task) : Type 0 where
  pub plan : CallPlan
  pub mark : ℕ
  pub plans : PlansEnter (sight_in before) pid (machine_of old) plan
  pub told : IsTold plan.verdict mark before.served old new
  pub made : MakesTask plan.child mark (machine_of old) old.trace child
  pub system : IsEntered pid plan mark before later
  pub outcome_is : outcome ≡ outcome_of (item_of plan.verdict)
