-- What an Enter rests on, and what there has to be room for.
use Rattle.std.specs.Prelude.{◌≡◌, ℕ, ◌+◌, ◌^◌, ◌<◌, ◌≤◌, ◌⊎◌, true, length, Option, None, is_some, IfSome, vec_len, vec_capacity}
use Rattle.std.specs.Global.{Vec}
use Rattle.calls.specs.Plans.{AreLeft, IsNext, MayAllStep}
use Rattle.calls.specs.declared.plan.CallPlan.{CallPlan}
use Rattle.kernel_model.specs.Entries.{Item}
use Rattle.kernel_model.specs.Shown.{end_in}
use Rattle.kernel_model.specs.State.{changed_by}
use Rattle.kernel_model.specs.declared.event.Event.{Event}
use Rattle.kernel_model.specs.declared.request.Verdict.{Verdict}
use Rattle.machine_model.specs.States.{State, stopped_at}
use Rattle.pipes.specs.Seen.{Seen}
use Rattle.processes.specs.Table.{Table, HasRoom as HasChildRoom}
use Rattle.held_output.specs.Withheld.{Withheld, whats}
use Rattle.kernel_step.specs.Entering.{sight_in, entry_of, in_image_by, MayBeTold, MayPlan, HasSpaceFor, IsSpare, IsEntering, IsSystemWith, unboxed}
use Rattle.kernel_step.specs.Tasks.{machine_of, out_of, status_of}
use Rattle.kernel_step.specs.declared.plan.EnterPlan.{EnterPlan}
use Rattle.kernel_step.specs.declared.system.System.{System}
use Rattle.kernel_step.specs.declared.task.Task.{Task}

-- Process pid may enter by this machine and with this trace: it stands at a call or a trap, may do one more instruction, and has
-- not ended; a plan may be made for it, and one more Enter and one more file may be counted.
pub record MayEnter (s : System) (pid : ℕ) (m : State) (trace : Withheld Item) : Type 0 where
  pub stands : is_some (stopped_at m) ≡ true
  pub budget : m.count < 2 ^ 40
  pub running : end_in (whats trace.items) ≡ None
  pub plan : MayPlan (sight_in s) pid
  pub few : s.served < 2 ^ 63
  pub fresh : s.files.made + 1 < 2 ^ 64

-- ---- room

-- there is room for what a plan of process pid adds to what is shared
pub record HasRoomForPlan (s : System) (pid : ℕ) (plan : CallPlan) : Type 0 where
  pub children : HasChildRoom s.processes pid
  pub changes : vec_len s.changes < vec_capacity s.changes
  pub output : HasSpaceFor plan.output s.screens.items

-- there is room for all that an Enter adds, and for a Turn before it
pub record HasRoomForEnter (history : Vec Event) (trace : Withheld Item) (s : System) (e : EnterPlan) : Type 0 where
  pub events : vec_len history + 2 ≤ vec_capacity history
  pub writes : length e.writes.items + 1 ≤ s.dependencies.room
  pub footprint : 1 ≤ s.footprints.enter_room
  pub carriers : length e.plan.reads.items + length e.writes.items ≤ s.footprints.carrier_room
  pub replies : 1 ≤ trace.room
  pub plan : HasRoomForPlan s e.pid e.plan

-- ---- what is prepared

-- an Enter of process pid by this machine and with this trace comes to this, and its change of the files is done
pub record IsPrepared (pid : ℕ) (m : State) (trace : Withheld Item) (old new : System) (e : EnterPlan) : Type 0 where
  pub entering : IsEntering (sight_in old) pid m trace e
  pub changed : IsSystemWith (changed_by old.files e.plan.change) old new

-- the event of an Enter may be noted: there is room for what it writes, and for its footprint, and what it writes is what its plan says
pub record MayBeNoted (s : System) (e : EnterPlan) : Type 0 where
  pub room : length e.writes.items ≤ s.dependencies.room
  pub footprint : 1 ≤ s.footprints.enter_room
  pub carriers : length e.plan.reads.items + length e.writes.items ≤ s.footprints.carrier_room
  pub writes : e.writes.items ≡ (entry_of e.pid e.plan).writes

-- ---- the rest of an Enter

-- a task may be told this, and go on with this machine if its reply has an image: its machine is here, may be told it and do one
-- more instruction; it has not ended, and has room for a reply
pub record TaskMayBeTold (verdict : Verdict) (next : Option State) (t : Task) : Type 0 where
  pub here : out_of t ≡ None
  pub goes_on : next ≡ in_image_by (machine_of t) verdict
  pub fine : MayBeTold (machine_of t) verdict
  pub budget : (machine_of t).count < 2 ^ 40
  pub running : status_of t ≡ None
  pub room : 1 ≤ t.trace.room

-- a process that is made, if one is, may be told a reply
pub record ChildMayBeTold (child : Option Task) : Type 0 where
  pub running : IfSome child (λ u. status_of u ≡ None)
  pub room : IfSome child (λ u. 1 ≤ u.trace.room)

-- the plan of process pid may change the table of processes: the process is there, with room for a child; a process that the plan
-- makes is the next one, and it does not both make one and collect one
pub record MayChangeParts (table : Table) (pid : ℕ) (plan : CallPlan) : Type 0 where
  pub from_1 : 0 < pid
  pub there : pid ≤ length table.parts
  pub child : IfSome plan.child (IsNext (length table.parts))
  pub one : (plan.child ≡ None) ⊎ (plan.collects ≡ None)
  pub room : HasChildRoom table pid

-- the plan may change what is shared: the table of processes as above; no more of a tape is read than is left; the steps of its
-- pipes may be done, of which this is the pipe that is made, if one is; and one more Enter may be counted
pub record MayChangeSystem (s : System) (pid : ℕ) (plan : CallPlan) (pipe : Option Seen) : Type 0 where
  pub processes : MayChangeParts s.processes pid plan
  pub left : IfSome plan.tape (AreLeft s.tapes)
  pub spare : IsSpare plan.pipes.items pipe
  pub may : MayAllStep s.pipes plan.pipes.items
  pub few : s.served < 2 ^ 63

-- the rest of an Enter may be done
pub record IsReady (t : Task) (s : System) (e : EnterPlan) : Type 0 where
  pub task : TaskMayBeTold e.plan.verdict e.next t
  pub child : ChildMayBeTold (unboxed e.child)
  pub output : HasSpaceFor e.plan.output s.screens.items
  pub changes : vec_len s.changes < vec_capacity s.changes
  pub system : MayChangeSystem s e.pid e.plan e.spare
