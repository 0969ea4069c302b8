-- What calls may look at, when a call may be planned from it, and what holds of the plan.
use Rattle.std.specs.Prelude.{◌≡◌, ℕ, ◌+◌, ◌^◌, ◌<◌, ◌≤◌, List, length, Option, IfSome}
use Rattle.std.specs.List.{AllByRecursion}
use Rattle.disk_model.specs.Files.{IsPossible}
use Rattle.disk_model.specs.Limits.{longest_file, most_files}
use Rattle.disk_model.specs.Numbers.{Numbered}
use Rattle.disk_model.specs.declared.change.NamedFile.{NamedFile}
use Rattle.kernel_model.specs.Limits.{AreNumbered}
use Rattle.machine_model.specs.States.{State}
use Rattle.kernel_model.specs.Requests.{request_of}
use Rattle.kernel_model.specs.Rows.{CallEffect, row}
use Rattle.kernel_model.specs.State.{Shared, TapeState, changed_by}
use Rattle.kernel_model.specs.Steps.{set_slots}
use Rattle.kernel_model.specs.declared.descriptor.Descriptor.{Descriptor}
use Rattle.kernel_model.specs.declared.request.Request.{Request}
use Rattle.pipes.specs.Seen.{Seen}
use Rattle.pipes.specs.Stepping.{HasAtMost}
use Rattle.processes.specs.Parts.{Part, part_at, descriptors_in, children_in, statuses_of}
use Rattle.calls.specs.Plans.{Says, NamesFiles, AreLeft, AtMostOneEntry, OpensAlone, EditsAs, MayAllStep, IsNext, MayBePlaced}
use Rattle.calls.specs.Shares.{IsKept, shared_of}
use Rattle.calls.specs.declared.plan.CallPlan.{CallPlan}
use Rattle.calls.specs.declared.tables.KernelTables.{KernelTables}

-- what is kept of all processes beside their machines, the files, what is seen of the pipes, and the tapes
pub record Sight : Type 0 where
  pub parts : List Part
  pub files : Numbered
  pub pipes : List Seen
  pub tapes : List TapeState

-- what these tables show
abbrev pub sight_of : KernelTables → Sight
sight_of t = record { parts = t.processes.now.parts; files = t.files.now; pipes = t.pipes.now; tapes = t.tapes.now }

-- calls may look at this much of a state
abbrev pub IsSightOfShared : Shared → Sight → Type 0
IsSightOfShared s seen = IsKept s (statuses_of seen.parts) seen.files seen.pipes seen.tapes

-- the row of a request of process pid, by this much of a state, where its descriptors are these
abbrev pub row_from : Sight → ℕ → List (Option Descriptor) → Request → CallEffect
row_from seen pid ds request = row (shared_of (statuses_of seen.parts) seen.files seen.pipes seen.tapes) pid ds (children_in (part_at seen.parts pid)) request

-- A call of process pid may be planned: the process is there, and its descriptors name files that were made; the files are few and
-- short, and numbered.
pub record MayPlanCall (seen : Sight) (pid : ℕ) : Type 0 where
  pub from_1 : 0 < pid
  pub there : pid ≤ length seen.parts
  pub few : length seen.files.living ≤ most_files
  pub short : AllByRecursion (λ (f : NamedFile). length f.bytes ≤ longest_file) seen.files.living
  pub numbered : AreNumbered seen.files
  pub named : NamesFiles seen.files.made (descriptors_in (part_at seen.parts pid))

-- The plan is what a request of process pid comes to, by the table of calls, and it may be done. At most one of these comes of it:
-- descriptors are set, a child is made, a child is collected. Where it opens a pipe, that is its only step of the pipes. It has at
-- most 16 steps, and there is room for them where fewer than 2^64 - 16 descriptors stand for each end of a pipe. Where the caller
-- waits nothing changes, and where it ends nothing but the pipes. Its change of the files is possible, and the caller's
-- descriptors still name files that were made. No more of a tape is read than is left. A child is the next process, and not one
-- too many. Where a machine asks this request, the bytes of the reply may be written at their place in that machine.
pub record PlansCall (seen : Sight) (pid : ℕ) (request : Request) (plan : CallPlan) : Type 0 where
  pub says : (s : Shared) → IsSightOfShared s seen → Says s.files plan (row s pid (descriptors_in (part_at seen.parts pid)) (children_in (part_at seen.parts pid)) request)
  pub one_entry : AtMostOneEntry plan.slots.items plan.child plan.collects
  pub opens : OpensAlone plan.pipes.items
  pub few : length plan.pipes.items ≤ 16
  pub edits : EditsAs plan.verdict plan
  pub possible : IfSome plan.change (IsPossible seen.files.living)
  pub named : NamesFiles (changed_by seen.files plan.change).made (set_slots (descriptors_in (part_at seen.parts pid)) plan.slots.items)
  pub left : IfSome plan.tape (AreLeft seen.tapes)
  pub steps : (s : Shared) (n : ℕ) → IsSightOfShared s seen → AllByRecursion (HasAtMost n) s.pipes → n + 16 < 2 ^ 64 → MayAllStep seen.pipes plan.pipes.items
  pub child : IfSome plan.child (IsNext (length seen.parts))
  pub place : (s : State) → request ≡ request_of s → MayBePlaced s.architectural.memory plan.verdict
