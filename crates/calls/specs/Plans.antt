-- What the code plans for a call, against the table of calls, and what a kernel may rest on in a plan.
use Rattle.std.specs.Prelude.{◌≡◌, ℕ, ◌+◌, ◌<◌, ◌≤◌, ◌⊎◌, true, List, [], ◌∷◌, length, drop, slice_get, Option, Some, None, IfSome}
use Rattle.std.specs.List.{AllByRecursion}
use Rattle.disk_model.specs.Numbers.{Numbered}
use Rattle.memory_model.specs.Access.{is_writable}
use Rattle.memory_model.specs.Memory.{Memory}
use Rattle.kernel_model.specs.Rows.{CallEffect, most_processes}
use Rattle.kernel_model.specs.State.{TapeState}
use Rattle.kernel_model.specs.Steps.{change_by}
use Rattle.kernel_model.specs.declared.descriptor.Descriptor.{Descriptor}
use Rattle.kernel_model.specs.declared.descriptor.Descriptor.TheVariants as descriptor
use Rattle.kernel_model.specs.declared.effect.FileEdit.{FileEdit}
use Rattle.kernel_model.specs.declared.effect.FileEdit.TheVariants as edit
use Rattle.kernel_model.specs.declared.effect.PipeStep.{PipeStep}
use Rattle.kernel_model.specs.declared.effect.PipeStep.TheVariants as pipe_step
use Rattle.kernel_model.specs.declared.effect.Slot.{Slot}
use Rattle.kernel_model.specs.declared.effect.TapeRead.{TapeRead}
use Rattle.kernel_model.specs.declared.request.Verdict.{Verdict}
use Rattle.kernel_model.specs.declared.request.Verdict.TheVariants.{Waits, Replies, Ends}
use Rattle.pipes.specs.Seen.{Seen}
use Rattle.pipes.specs.Stepping.{seen_after, MayStep}
use Rattle.calls.specs.declared.plan.CallPlan.{CallPlan}
use Rattle.calls.specs.declared.row.CallRow.{CallRow}

-- what the code finds is this row of the table
pub record IsRow (row : CallRow) (effect : CallEffect) : Type 0 where
  pub verdict : row.verdict ≡ effect.verdict
  pub reads : row.reads.items ≡ effect.reads
  pub writes : row.writes.items ≡ effect.writes
  pub edit : row.edit ≡ effect.edit
  pub output : row.output ≡ effect.output
  pub tape : row.tape ≡ effect.tape
  pub pipes : row.pipes.items ≡ effect.pipes
  pub slots : row.slots.items ≡ effect.slots
  pub child : row.child ≡ effect.child
  pub collects : row.collects ≡ effect.collects

-- what the code finds, as a row of the table
abbrev pub effect_of : CallRow → CallEffect
effect_of row = record {
  verdict = row.verdict;
  reads = row.reads.items;
  writes = row.writes.items;
  edit = row.edit;
  output = row.output;
  tape = row.tape;
  pipes = row.pipes.items;
  slots = row.slots.items;
  child = row.child;
  collects = row.collects;
}

-- what a plan says, as a row of the table with this edit of a file
abbrev pub effect_with : CallPlan → Option FileEdit → CallEffect
effect_with plan edit = record {
  verdict = plan.verdict;
  reads = plan.reads.items;
  writes = plan.writes.items;
  edit = edit;
  output = plan.output;
  tape = plan.tape;
  pipes = plan.pipes.items;
  slots = plan.slots.items;
  child = plan.child;
  collects = plan.collects;
}

-- the plan says what this row of the table says, with its change in place of the row's edit of a file: a file by its place
pub record Says (files : Numbered) (plan : CallPlan) (effect : CallEffect) : Type 0 where
  pub row : effect_with plan effect.edit ≡ effect
  pub change : plan.change ≡ change_by files effect.edit

-- a descriptor that stands for a file stands for one of the first so many that were made
abbrev pub NamesFile : ℕ → Option Descriptor → Type 0
NamesFile count (Some (descriptor.File file offset writes)) = file < count
NamesFile count (Some (descriptor.Tape tape)) = Unit {0}
NamesFile count (Some (descriptor.Terminal terminal)) = Unit {0}
NamesFile count (Some (descriptor.Pipe end)) = Unit {0}
NamesFile count None = Unit {0}

-- each of these descriptors that stands for a file stands for one of the first so many
abbrev pub NamesFiles : ℕ → List (Option Descriptor) → Type 0
NamesFiles count ds = AllByRecursion (NamesFile count) ds

-- the pipes, as they are seen, after these steps, the first of them first
abbrev pub all_seen : List Seen → List PipeStep → List Seen
all_seen seen [] = seen
all_seen seen (step ∷ steps) = all_seen (seen_after seen step) steps

-- for each of these steps there is room where it comes
abbrev pub MayAllStep : List Seen → List PipeStep → Type 0
MayAllStep seen [] = Unit {0}
MayAllStep seen (step ∷ steps) = MayStep seen step × MayAllStep (seen_after seen step) steps

-- the next process by number, where there are so many, and not too many
abbrev pub IsNext : ℕ → ℕ → Type 0
IsNext count child = (child ≡ count + 1) × (count < most_processes)

-- the numbers that a write carries are bytes
abbrev pub CarriesBytes : FileEdit → Type 0
CarriesBytes (edit.Create name) = Unit {0}
CarriesBytes (edit.Write file offset bytes) = AllByRecursion (λ b. b < 256) bytes
CarriesBytes (edit.Empty file) = Unit {0}
CarriesBytes (edit.Remove file) = Unit {0}
CarriesBytes (edit.Rename file name) = Unit {0}

-- so many bytes are left of the tape that they are read from
abbrev pub AreLeft : List TapeState → TapeRead → Type 0
AreLeft tapes r = IfSome (slice_get tapes r.tape) (λ tape. r.count ≤ length (drop tape.place tape.bytes))

-- of descriptors that are set, a child that is made and one that is collected, at most one is there
pub record AtMostOneEntry (slots : List Slot) (child collects : Option ℕ) : Type 0 where
  pub slots_or_child : (slots ≡ []) ⊎ (child ≡ None)
  pub slots_or_collects : (slots ≡ []) ⊎ (collects ≡ None)
  pub child_or_collects : (child ≡ None) ⊎ (collects ≡ None)

-- a step of the pipes that opens none
abbrev pub OpensNone : PipeStep → Type 0
OpensNone pipe_step.Open = ⊥
OpensNone (pipe_step.Put k bytes) = Unit {0}
OpensNone (pipe_step.Take k count) = Unit {0}
OpensNone (pipe_step.Add end) = Unit {0}
OpensNone (pipe_step.Drop end) = Unit {0}

-- either one pipe is opened, and nothing else happens to the pipes, or none is
abbrev pub OpensAlone : List PipeStep → Type 0
OpensAlone steps = (steps ≡ pipe_step.Open ∷ []) ⊎ AllByRecursion OpensNone steps

-- nothing changes but the pipes
pub record EditsPipesAlone (plan : CallPlan) : Type 0 where
  pub change : plan.change ≡ None
  pub output : plan.output ≡ None
  pub tape : plan.tape ≡ None
  pub slots : plan.slots.items ≡ []
  pub child : plan.child ≡ None
  pub collects : plan.collects ≡ None

-- a plan that waits changes nothing, and one that ends its process nothing but the pipes
abbrev pub EditsAs : Verdict → CallPlan → Type 0
EditsAs Waits plan = EditsPipesAlone plan × (plan.pipes.items ≡ [])
EditsAs (Replies reply) plan = Unit {0}
EditsAs (Ends status) plan = EditsPipesAlone plan

-- the bytes of a reply may be written at its place
abbrev pub MayBePlaced : Memory → Verdict → Type 0
MayBePlaced memory Waits = Unit {0}
MayBePlaced memory (Replies reply) = is_writable memory reply.at (length reply.bytes) ≡ true
MayBePlaced memory (Ends status) = Unit {0}
