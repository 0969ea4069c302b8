-- What the key of a run is made from.
use Rattle.std.specs.Prelude.{◌≡◌, ℕ, zero, suc, ◌+◌, ◌-◌, ◌++◌, if◌then◌else◌, List, [], ◌∷◌, length, map, take, drop, slice_get, slice_index, slice_index_or, Option, Some, None, option_map}
use Rattle.disk_model.specs.Numbers.{Numbered}
use Rattle.disk_model.specs.declared.change.NamedFile.{NamedFile}
use Rattle.kernel_model.specs.Answers.{Kernel, now}
use Rattle.kernel_model.specs.Rows.{status_in}
use Rattle.kernel_model.specs.Shown.{printed}
use Rattle.kernel_model.specs.State.{Process, TapeState, process_at}
use Rattle.kernel_model.specs.Views.{contents}
use Rattle.kernel_model.specs.declared.descriptor.Descriptor.{Descriptor}
use Rattle.kernel_model.specs.declared.descriptor.Descriptor.TheVariants.{Tape, Terminal, File, Pipe}
use Rattle.kernel_model.specs.declared.descriptor.PipeEnd.TheVariants.{Read, Write}
use Rattle.pipes.specs.Seen.{Seen, seen_of}
use Rattle.processes.specs.Parts.{Part, children_in, descriptors_in, part_at, part_of, statuses_of}
use Rattle.state_search.specs.declared.key.Key.{Key}
use Rattle.state_search.specs.Digests.{key_in, number_bytes, option_bytes, sum_bytes, text_bytes}
use Rattle.replayed_runs.specs.declared.pipe_texts.PipeText.{PipeText}
use Rattle.replayed_runs.specs.declared.replay.Replay.{Replay}

-- those of each place below this one
abbrev pub upto_bytes : (ℕ → List ℕ) → ℕ → List ℕ
upto_bytes f zero = []
upto_bytes f (suc k) = upto_bytes f k ++ f k

-- ---- processes

abbrev pub descriptor_bytes : Descriptor → List ℕ
descriptor_bytes (Tape tape) = 1 ∷ number_bytes tape
descriptor_bytes (Terminal terminal) = 2 ∷ number_bytes terminal
descriptor_bytes (File file offset writes) = (3 ∷ number_bytes file) ++ (number_bytes offset ++ (if writes then 1 else 0) ∷ [])
descriptor_bytes (Pipe (Read pipe)) = 4 ∷ number_bytes pipe
descriptor_bytes (Pipe (Write pipe)) = 5 ∷ number_bytes pipe

abbrev pub slot_bytes : Option Descriptor → List ℕ
slot_bytes None = 0 ∷ []
slot_bytes (Some d) = descriptor_bytes d

abbrev pub slot_bytes_at : Option (Option Descriptor) → List ℕ
slot_bytes_at None = []
slot_bytes_at (Some slot) = slot_bytes slot

abbrev pub slots_bytes : List (Option Descriptor) → List ℕ
slots_bytes ds = upto_bytes (λ k. slot_bytes_at (slice_get ds k)) (length ds)

abbrev pub number_bytes_at : Option ℕ → List ℕ
number_bytes_at None = []
number_bytes_at (Some n) = number_bytes n

abbrev pub numbers_bytes : List ℕ → List ℕ
numbers_bytes ns = upto_bytes (λ k. number_bytes_at (slice_get ns k)) (length ns)

abbrev pub children_bytes : List ℕ → List ℕ
children_bytes children = number_bytes (length children) ++ numbers_bytes children

-- a machine is a function of its program, of the replies to its calls, and of how far it ran
abbrev pub machine_bytes : Option Process → List ℕ
machine_bytes None = []
machine_bytes (Some p) = number_bytes p.state.architectural.pc ++ number_bytes p.state.count

-- a sum, or that of no replies
abbrev pub sum_or_none : Option Key → Key
sum_or_none None = record { high = 0; low = 0 }
sum_or_none (Some sum) = sum

-- the sum of the replies to a process
abbrev pub sum_in : List Key → ℕ → Key
sum_in sums pid = sum_or_none (slice_get sums (pid - 1))

abbrev pub process_bytes : List Process → List Key → List Part → ℕ → List ℕ
process_bytes processes sums parts pid =
    machine_bytes (process_at processes pid) ++ (sum_bytes (sum_in sums pid) ++ (slots_bytes (descriptors_in (part_at parts pid))
    ++ (children_bytes (children_in (part_at parts pid)) ++ option_bytes (status_in (statuses_of parts) pid))))

abbrev pub processes_bytes : List Process → List Key → List Part → List ℕ
processes_bytes processes sums parts =
    number_bytes (length processes) ++ upto_bytes (λ k. process_bytes processes sums parts (k + 1)) (length processes)

-- ---- files

abbrev pub no_file : NamedFile
no_file = record { name = []; bytes = [] }

abbrev pub file_bytes : Numbered → ℕ → List ℕ
file_bytes t place =
    number_bytes (slice_index t.numbers place) ++ (text_bytes (slice_index_or t.living place no_file).name ++ text_bytes (slice_index_or t.living place no_file).bytes)

abbrev pub files_bytes : Numbered → List ℕ
files_bytes t = number_bytes t.made ++ (number_bytes (length t.living) ++ upto_bytes (file_bytes t) (length t.living))

-- ---- pipes, with all that was ever written to each

abbrev pub written_of : Option PipeText → List ℕ
written_of None = []
written_of (Some text) = text.written.items

abbrev pub written_in : List PipeText → ℕ → List ℕ
written_in texts k = written_of (slice_get texts k)

abbrev pub pipe_bytes : Option Seen → List ℕ → List ℕ
pipe_bytes None written = []
pipe_bytes (Some p) written = number_bytes p.readers ++ (number_bytes p.writers ++ (number_bytes (length p.held) ++ text_bytes written))

abbrev pub pipes_bytes : List Seen → List PipeText → List ℕ
pipes_bytes pipes texts = number_bytes (length pipes) ++ upto_bytes (λ k. pipe_bytes (slice_get pipes k) (written_in texts k)) (length pipes)

-- ---- tapes and terminals

-- how much of a tape is left, up to `most` bytes
abbrev pub left_on : ℕ → List TapeState → ℕ → Option ℕ
left_on most tapes k = option_map (λ tape. length (take most (drop tape.place tape.bytes))) (slice_get tapes k)

abbrev pub tapes_bytes : ℕ → List TapeState → List ℕ
tapes_bytes most tapes = upto_bytes (λ k. option_bytes (left_on most tapes k)) 8

abbrev pub terminals_bytes : Kernel → List ℕ
terminals_bytes k = upto_bytes (λ t. text_bytes (contents (printed t (now k).log))) 8

-- ---- all of it

-- all of which the state of a run is a function
abbrev pub state_bytes : Kernel → List Key → List PipeText → ℕ → List ℕ
state_bytes k sums texts most =
    let s = (now k).sync in
    processes_bytes s.processes sums (map part_of s.processes) ++ (files_bytes s.files ++ (pipes_bytes (map seen_of s.pipes) texts ++ (tapes_bytes most s.tapes ++ terminals_bytes k)))

-- A run has this key: the first 128 bits of the SHA-256 digest of its whole state, and of its window, if it has one.
pub record IsKeyOf (r : Replay) (key : Key) : Type 0 where
  pub window : List ℕ
  pub no_window : r.window ≡ None → window ≡ []
  pub is : key ≡ key_in (state_bytes r.core r.replies.sums.items r.pipes.texts.items 65536 ++ window)
