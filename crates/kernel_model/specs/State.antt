-- The state of a kernel that stores each change of the files within its call.
use Rattle.std.specs.Prelude.{map, ℕ, ◌+◌, ◌-◌, ◌∷◌, ◌++◌, [], drop, zero, suc, List, slice_get, slice_set, Option, Some, None}
use Rattle.disk_model.specs.declared.change.Change.{Change}
use Rattle.disk_model.specs.Numbers.{Numbered, changed_numbered}
use Rattle.machine_model.specs.States.{State}
use Rattle.kernel_model.specs.declared.descriptor.Descriptor.{Descriptor}
use Rattle.kernel_model.specs.declared.descriptor.PipeEnd.{PipeEnd}
use Rattle.kernel_model.specs.declared.descriptor.PipeEnd.TheVariants.{Read, Write}
use Rattle.kernel_model.specs.declared.effect.PipeStep.{PipeStep}
use Rattle.kernel_model.specs.declared.effect.PipeStep.TheVariants.{Open, Put, Take, Add, Drop}
use Rattle.kernel_model.specs.declared.effect.TapeRead.{TapeRead}

-- a process: its machine, what its 16 descriptors stand for, the numbers of its children that it has not collected, by rising
-- number, and its status if it has ended
pub record Process : Type 0 where
  pub state : State
  pub descriptors : List (Option Descriptor)
  pub children : List ℕ
  pub status : Option ℕ

-- a tape: its bytes, and the place of the next one to be read
pub record TapeState : Type 0 where
  pub bytes : List ℕ
  pub place : ℕ

-- a pipe: all bytes ever written to it, how many of them were read, and how many descriptors stand for each of its ends
pub record PipeState : Type 0 where
  pub written : List ℕ
  pub taken : ℕ
  pub readers : ℕ
  pub writers : ℕ

-- the bytes that a pipe holds: written, and not yet read
abbrev pub unread : PipeState → List ℕ
unread p = drop p.taken p.written

-- The whole state. Process p stands at place p - 1; a pipe and a tape at its number.
pub record SyncState : Type 0 where
  pub processes : List Process
  pub files : Numbered
  pub pipes : List PipeState
  pub tapes : List TapeState

-- what a call may look at beside its own process: how each process has ended, if it has, and no machine of another
pub record Shared : Type 0 where
  pub statuses : List (Option ℕ)
  pub files : Numbered
  pub pipes : List PipeState
  pub tapes : List TapeState

-- the part of the state that calls may look at
abbrev pub shared : SyncState → Shared
shared s = record { statuses = map (λ p. p.status) s.processes; files = s.files; pipes = s.pipes; tapes = s.tapes }

-- process p, if there is one
abbrev pub process_at : List Process → ℕ → Option Process
process_at ps zero = None
process_at ps (suc k) = slice_get ps k

-- the processes where process p is now this one
abbrev pub put_process : List Process → ℕ → Process → List Process
put_process ps zero p = ps
put_process ps (suc k) p = slice_set ps k p

-- the state where process p is now this one
abbrev pub with_process : SyncState → ℕ → Process → SyncState
with_process s pid p = record s { processes = put_process s.processes pid p }

-- the files after a change, if there is one
abbrev pub changed_by : Numbered → Option Change → Numbered
changed_by files None = files
changed_by files (Some c) = changed_numbered files c

-- a tape, if it is there, from which so many more bytes were read
abbrev pub with_place : List TapeState → ℕ → ℕ → Option TapeState → List TapeState
with_place tapes t count None = tapes
with_place tapes t count (Some tape) = slice_set tapes t (record tape { place = tape.place + count })

-- the tapes after bytes of one were read, if they were
abbrev pub read_by : List TapeState → Option TapeRead → List TapeState
read_by tapes None = tapes
read_by tapes (Some r) = with_place tapes r.tape r.count (slice_get tapes r.tape)

-- a new pipe: nothing was written to it, and one descriptor stands for each end
abbrev pub new_pipe : PipeState
new_pipe = record { written = []; taken = 0; readers = 1; writers = 1 }

-- the pipes where pipe k, if it is there, is now what f makes of it
abbrev pub with_pipe : List PipeState → ℕ → Option PipeState → (PipeState → PipeState) → List PipeState
with_pipe pipes k None f = pipes
with_pipe pipes k (Some p) f = slice_set pipes k (f p)

-- the pipes where one more descriptor stands for an end
abbrev pub with_end : List PipeState → PipeEnd → List PipeState
with_end pipes (Read k) = with_pipe pipes k (slice_get pipes k) (λ p. record p { readers = p.readers + 1 })
with_end pipes (Write k) = with_pipe pipes k (slice_get pipes k) (λ p. record p { writers = p.writers + 1 })

-- the pipes where one descriptor fewer stands for an end
abbrev pub without_end : List PipeState → PipeEnd → List PipeState
without_end pipes (Read k) = with_pipe pipes k (slice_get pipes k) (λ p. record p { readers = p.readers - 1 })
without_end pipes (Write k) = with_pipe pipes k (slice_get pipes k) (λ p. record p { writers = p.writers - 1 })

-- the pipes after one step
abbrev pub stepped : List PipeState → PipeStep → List PipeState
stepped pipes Open = pipes ++ new_pipe ∷ []
stepped pipes (Put k bytes) = with_pipe pipes k (slice_get pipes k) (λ p. record p { written = p.written ++ bytes })
stepped pipes (Take k count) = with_pipe pipes k (slice_get pipes k) (λ p. record p { taken = p.taken + count })
stepped pipes (Add end) = with_end pipes end
stepped pipes (Drop end) = without_end pipes end

-- the pipes after these steps, the first of them first
abbrev pub all_stepped : List PipeState → List PipeStep → List PipeState
all_stepped pipes [] = pipes
all_stepped pipes (step ∷ steps) = all_stepped (stepped pipes step) steps
