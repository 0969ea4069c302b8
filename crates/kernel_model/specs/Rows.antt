-- The table of system calls: what each request comes to, its tests in their order. Read from the last definition up.
-- Some rows answer for a tape or a pipe that is not there, or for a file that was never made. No run of at most 8 programs comes
-- to these: `kernel_model::tables_keep_their_limits`, and of pipes `kernel_model::ends_are_counted`.
use Rattle.std.specs.Prelude.{ℕ, zero, suc, ◌+◌, ◌-◌, ◌^◌, ◌%◌, ◌==◌, ◌&&◌, ◌++◌, ◌||◌, not, Bool, true, false, if◌then◌else◌, nat_lt, nat_le, List, [], ◌∷◌, length, slice_get, map, filter_map, take, drop, Option, Some, None, is_none, option_map, unwrap_or}
use Rattle.std.specs.List.{list_all, position}
use Rattle.std.specs.Str.{bytes_eq}
use Rattle.std.specs.Int.{w32, to_le_bytes}
use Rattle.disk_model.specs.declared.change.NamedFile.{NamedFile}
use Rattle.disk_model.specs.Files.{is_name_byte}
use Rattle.disk_model.specs.Numbers.{Numbered, at_place, file_of, lives}
use Rattle.disk_model.specs.Limits.{most_files, longest_name, longest_file}
use Rattle.image_model.specs.declared.fault.ElfFault.{ElfFault}
use Rattle.image_model.specs.Checks.{first_fault}
use Rattle.image_model.specs.Names.{program_in}
use Rattle.kernel_model.specs.Requests.{most_bytes}
use Rattle.kernel_model.specs.State.{Shared, TapeState, PipeState, unread}
use Rattle.kernel_model.specs.declared.carrier.Carrier.{Carrier}
use Rattle.kernel_model.specs.declared.carrier.Carrier.TheVariants as carrier
use Rattle.kernel_model.specs.declared.descriptor.Descriptor.{Descriptor}
use Rattle.kernel_model.specs.declared.descriptor.Descriptor.TheVariants as descriptor
use Rattle.kernel_model.specs.declared.descriptor.PipeEnd.{PipeEnd}
use Rattle.kernel_model.specs.declared.descriptor.PipeEnd.TheVariants as pipe_end
use Rattle.kernel_model.specs.declared.effect.FileEdit.{FileEdit}
use Rattle.kernel_model.specs.declared.effect.FileEdit.TheVariants as edit
use Rattle.kernel_model.specs.declared.effect.Output.{Output}
use Rattle.kernel_model.specs.declared.effect.PipeStep.{PipeStep}
use Rattle.kernel_model.specs.declared.effect.PipeStep.TheVariants as pipe_step
use Rattle.kernel_model.specs.declared.effect.Slot.{Slot}
use Rattle.kernel_model.specs.declared.effect.TapeRead.{TapeRead}
use Rattle.kernel_model.specs.declared.request.Request.{Request}
use Rattle.kernel_model.specs.declared.request.Request.TheVariants as request
use Rattle.kernel_model.specs.declared.request.Verdict.{Verdict}
use Rattle.kernel_model.specs.declared.request.Verdict.TheVariants.{Waits, Replies, Ends}

-- What a call comes to: what the caller is told, the carriers that it reads and writes beside the caller's own, and its edits.
-- `child` is the number of a process that is made, `collects` that of a child that is collected. `CallEffect` has the fields of the
-- code's `CallRow` on purpose, so that one is compared with the other field by field.
pub record CallEffect : Type 0 where
  pub verdict : Verdict
  pub reads : List Carrier
  pub writes : List Carrier
  pub edit : Option FileEdit
  pub output : Option Output
  pub tape : Option TapeRead
  pub pipes : List PipeStep
  pub slots : List Slot
  pub child : Option ℕ
  pub collects : Option ℕ

-- the caller is told this, and nothing else comes of it
abbrev pub only : Verdict → CallEffect
only verdict = record { verdict = verdict; reads = []; writes = []; edit = None; output = None; tape = None; pipes = []; slots = []; child = None; collects = None }

-- a reply of a number, without bytes
abbrev pub number : ℕ → Verdict
number n = Replies (record { a0 = n; at = 0; bytes = []; image = None })

-- a reply of a number, with these bytes for a place; the place is 0 where there are none
abbrev pub with_bytes : ℕ → ℕ → List ℕ → Verdict
with_bytes n at [] = number n
with_bytes n at (b ∷ bs) = Replies (record { a0 = n; at = at; bytes = b ∷ bs; image = None })

-- a reply of the word of a negative number
abbrev pub minus : ℕ → Verdict
minus code = number (2 ^ 32 - code)

-- a reply of an error, which changes nothing
abbrev pub failure : ℕ → CallEffect
failure code = only (minus code)

-- The errors: no such file, not an image, bad descriptor, no child, bad address, bad argument, table full, too many descriptors,
-- file too large, no reader, no such call.
abbrev pub no_such_file : ℕ
no_such_file = 2

abbrev pub not_an_image : ℕ
not_an_image = 8

abbrev pub bad_descriptor : ℕ
bad_descriptor = 9

abbrev pub no_child : ℕ
no_child = 10

abbrev pub bad_address : ℕ
bad_address = 14

abbrev pub bad_argument : ℕ
bad_argument = 22

abbrev pub table_full : ℕ
table_full = 23

abbrev pub too_many_descriptors : ℕ
too_many_descriptors = 24

abbrev pub file_too_large : ℕ
file_too_large = 27

abbrev pub no_reader : ℕ
no_reader = 32

abbrev pub no_such_call : ℕ
no_such_call = 38

-- the most bytes that a pipe holds
abbrev pub pipe_size : ℕ
pipe_size = 4096

-- the most pipes of a run
abbrev pub most_pipes : ℕ
most_pipes = 1024

-- the most processes of a run
abbrev pub most_processes : ℕ
most_processes = 1024

-- ---- the ends of pipes

-- the end of a pipe for which a descriptor stands, if it stands for one
abbrev pub end_of : Option Descriptor → Option PipeEnd
end_of (Some (descriptor.Pipe end)) = Some end
end_of (Some (descriptor.Tape t)) = None
end_of (Some (descriptor.Terminal t)) = None
end_of (Some (descriptor.File file offset writes)) = None
end_of None = None

-- the ends for which these descriptors stand
abbrev pub ends_of : List (Option Descriptor) → List PipeEnd
ends_of ds = filter_map end_of ds

-- the pipe of an end, as a carrier
abbrev pub carrier_of : PipeEnd → Carrier
carrier_of (pipe_end.Read k) = carrier.Pipe k
carrier_of (pipe_end.Write k) = carrier.Pipe k

-- what the caller is told, where the descriptors that stand for these ends are closed
abbrev pub closing : List PipeEnd → Verdict → CallEffect
closing ends verdict = record (only verdict) {
  reads = map carrier_of ends;
  writes = map carrier_of ends;
  pipes = map pipe_step.Drop ends;
}

-- what the caller is told, and steps of a pipe
abbrev pub on_pipe : ℕ → Verdict → List PipeStep → CallEffect
on_pipe k verdict steps = record (only verdict) { reads = carrier.Pipe k ∷ []; writes = carrier.Pipe k ∷ []; pipes = steps }

-- ---- files that descriptors stand for

-- the file for which a descriptor stands, if it stands for one, as a carrier
abbrev pub file_carriers : Option Descriptor → List Carrier
file_carriers (Some (descriptor.File file offset writes)) = carrier.File file ∷ []
file_carriers (Some (descriptor.Tape t)) = []
file_carriers (Some (descriptor.Terminal t)) = []
file_carriers (Some (descriptor.Pipe end)) = []
file_carriers None = []

-- an effect of a call that looks whether the file for which a descriptor stands, if it stands for one, still lives
abbrev pub looking_at : Option Descriptor → CallEffect → CallEffect
looking_at d e = record e { reads = file_carriers d ++ e.reads }

-- ---- exit

-- the end of a process with these descriptors and a status, by a call or a trap: all its descriptors are closed
abbrev pub row_end : List (Option Descriptor) → ℕ → CallEffect
row_end ds status = closing (ends_of ds) (Ends status)

-- ---- the caller's descriptors

-- what a descriptor of the caller stands for; one past the last stands for nothing
abbrev pub descriptor_at : List (Option Descriptor) → ℕ → Option Descriptor
descriptor_at ds fd = unwrap_or (slice_get ds fd) None

-- ---- write

-- bytes may be written through a descriptor
abbrev pub may_write : Numbered → Option Descriptor → Bool
may_write files (Some (descriptor.Terminal t)) = true
may_write files (Some (descriptor.File file offset writes)) = writes && lives files file
may_write files (Some (descriptor.Tape t)) = false
may_write files (Some (descriptor.Pipe (pipe_end.Read k))) = false
may_write files (Some (descriptor.Pipe (pipe_end.Write k))) = true
may_write files None = false

-- write, of these bytes to a file at an offset, through the descriptor fd
abbrev pub write_file : ℕ → ℕ → ℕ → List ℕ → CallEffect
write_file fd file offset bytes =
    if nat_lt longest_file (offset + length bytes) then failure file_too_large
    else record (only (number (length bytes))) {
      writes = carrier.File file ∷ [];
      edit = Some (edit.Write file offset bytes);
      slots = record { fd = fd; holds = Some (descriptor.File file (offset + length bytes) true) } ∷ [];
    }

-- write, of these bytes to a pipe with so much room: as many as there is room for
abbrev pub put_some : ℕ → List ℕ → ℕ → CallEffect
put_some k bytes room =
    let taken = take room bytes in on_pipe k (number (length taken)) (pipe_step.Put k taken ∷ [])

-- write, of these bytes to a pipe: refused where none can read it any more, and waiting where it is full
abbrev pub write_pipe : ℕ → List ℕ → Option PipeState → CallEffect
write_pipe k bytes None = record (failure bad_descriptor) { reads = carrier.Pipe k ∷ [] }
write_pipe k bytes (Some p) =
    if p.readers == 0 then on_pipe k (minus no_reader) []
    else if nat_le pipe_size (length (unread p)) then on_pipe k Waits []
    else put_some k bytes (pipe_size - length (unread p))

-- write, of these bytes through the descriptor fd, by what it stands for
abbrev pub write_to : Shared → Option Descriptor → ℕ → List ℕ → CallEffect
write_to s (Some (descriptor.Terminal t)) fd bytes = record (only (number (length bytes))) { output = Some (record { terminal = t; bytes = bytes }) }
write_to s (Some (descriptor.File file offset true)) fd bytes = write_file fd file offset bytes
write_to s (Some (descriptor.File file offset false)) fd bytes = failure bad_descriptor
write_to s (Some (descriptor.Pipe (pipe_end.Write k))) fd bytes = write_pipe k bytes (slice_get s.pipes k)
write_to s (Some (descriptor.Pipe (pipe_end.Read k))) fd bytes = failure bad_descriptor
write_to s (Some (descriptor.Tape t)) fd bytes = failure bad_descriptor
write_to s None fd bytes = failure bad_descriptor

-- write, of bytes that may be None
abbrev pub write_read : Shared → Option Descriptor → ℕ → Option (List ℕ) → CallEffect
write_read s d fd None = failure bad_address
write_read s d fd (Some bytes) = write_to s d fd bytes

-- write, of n bytes through the descriptor fd, which stands for d
abbrev pub row_write : Shared → Option Descriptor → ℕ → ℕ → Option (List ℕ) → CallEffect
row_write s d fd n bytes =
    looking_at d (
    if not (may_write s.files d) then failure bad_descriptor
    else if nat_lt most_bytes n then failure bad_argument
    else if n == 0 then only (number 0)
    else write_read s d fd bytes)

-- ---- read

-- bytes may be read through a descriptor
abbrev pub may_read : Numbered → Option Descriptor → Bool
may_read files (Some (descriptor.Terminal t)) = false
may_read files (Some (descriptor.File file offset writes)) = not writes && lives files file
may_read files (Some (descriptor.Tape t)) = true
may_read files (Some (descriptor.Pipe (pipe_end.Read k))) = true
may_read files (Some (descriptor.Pipe (pipe_end.Write k))) = false
may_read files None = false

-- read, of at most n bytes of a tape, to a place
abbrev pub read_tape : ℕ → ℕ → ℕ → Option TapeState → CallEffect
read_tape t at n None = record (failure bad_descriptor) { reads = carrier.Tape t ∷ [] }
read_tape t at n (Some tape) =
    let bytes = take n (drop tape.place tape.bytes) in
    record (only (with_bytes (length bytes) at bytes)) {
      reads = carrier.Tape t ∷ [];
      writes = carrier.Tape t ∷ [];
      tape = Some (record { tape = t; count = length bytes });
    }

-- read, of at most n bytes of a file from an offset on, to a place, through the descriptor fd; none where the offset lies
-- past the file's end
abbrev pub read_file : ℕ → ℕ → ℕ → ℕ → ℕ → Option NamedFile → CallEffect
read_file fd file offset at n None = failure bad_descriptor
read_file fd file offset at n (Some f) =
    let bytes = take n (drop offset f.bytes) in
    record (only (with_bytes (length bytes) at bytes)) {
      slots = record { fd = fd; holds = Some (descriptor.File file (offset + length bytes) false) } ∷ [];
    }

-- read, of at most n of these bytes, which a pipe holds, to a place
abbrev pub take_some : ℕ → ℕ → ℕ → List ℕ → CallEffect
take_some k at n held =
    let bytes = take n held in on_pipe k (with_bytes (length bytes) at bytes) (pipe_step.Take k (length bytes) ∷ [])

-- read, of at most n bytes of a pipe, to a place: none where it holds none and none can write it any more, and waiting where
-- some still can
abbrev pub read_pipe : ℕ → ℕ → ℕ → Option PipeState → CallEffect
read_pipe k at n None = record (failure bad_descriptor) { reads = carrier.Pipe k ∷ [] }
read_pipe k at n (Some p) =
    if nat_lt 0 (length (unread p)) then take_some k at n (unread p)
    else if p.writers == 0 then on_pipe k (number 0) []
    else on_pipe k Waits []

-- read, of at most n bytes to a place through the descriptor fd, by what it stands for
abbrev pub read_from : Shared → Option Descriptor → ℕ → ℕ → ℕ → CallEffect
read_from s (Some (descriptor.Tape t)) fd at n = read_tape t at n (slice_get s.tapes t)
read_from s (Some (descriptor.File file offset false)) fd at n = read_file fd file offset at n (file_of s.files file)
read_from s (Some (descriptor.File file offset true)) fd at n = failure bad_descriptor
read_from s (Some (descriptor.Pipe (pipe_end.Read k))) fd at n = read_pipe k at n (slice_get s.pipes k)
read_from s (Some (descriptor.Pipe (pipe_end.Write k))) fd at n = failure bad_descriptor
read_from s (Some (descriptor.Terminal t)) fd at n = failure bad_descriptor
read_from s None fd at n = failure bad_descriptor

-- read, of at most n bytes to a place through the descriptor fd, which stands for d; they may be too many for the place
abbrev pub row_read : Shared → Option Descriptor → ℕ → ℕ → ℕ → Bool → CallEffect
row_read s d fd at n fits =
    looking_at d (
    if not (may_read s.files d) then failure bad_descriptor
    else if nat_lt most_bytes n then failure bad_argument
    else if n == 0 then only (number 0)
    else if not fits then failure bad_address
    else read_from s d fd at n)

-- ---- close

-- close, of the descriptor fd, which stands for d
abbrev pub row_close : Option Descriptor → ℕ → CallEffect
row_close None fd = failure bad_descriptor
row_close (Some d) fd = record (closing (ends_of (Some d ∷ [])) (number 0)) { slots = record { fd = fd; holds = None } ∷ [] }

-- ---- seek

-- seek, to an offset through the descriptor fd, which stands for a file that may live
abbrev pub seek_file : ℕ → ℕ → Bool → ℕ → Bool → CallEffect
seek_file fd file writes offset alive =
    if not alive then failure bad_descriptor
    else if nat_lt longest_file offset then failure bad_argument
    else record (only (number offset)) { slots = record { fd = fd; holds = Some (descriptor.File file offset writes) } ∷ [] }

-- seek, to an offset through the descriptor fd, by what it stands for
abbrev pub seek_to : Numbered → Option Descriptor → ℕ → ℕ → CallEffect
seek_to files (Some (descriptor.File file old writes)) fd offset = seek_file fd file writes offset (lives files file)
seek_to files (Some (descriptor.Tape t)) fd offset = failure bad_descriptor
seek_to files (Some (descriptor.Terminal t)) fd offset = failure bad_descriptor
seek_to files (Some (descriptor.Pipe end)) fd offset = failure bad_descriptor
seek_to files None fd offset = failure bad_descriptor

-- seek, to an offset through the descriptor fd, which stands for d
abbrev pub row_seek : Numbered → Option Descriptor → ℕ → ℕ → CallEffect
row_seek files d fd offset = looking_at d (seek_to files d fd offset)

-- ---- open, and the names of files

-- the least free descriptor
abbrev pub free_descriptor : List (Option Descriptor) → Option ℕ
free_descriptor ds = position is_none ds

-- what the names of files tell: of each file that lives its name and its number, in order of creation, and the next number
pub record Directory : Type 0 where
  pub names : List (List ℕ)
  pub numbers : List ℕ
  pub next : ℕ

-- the names of the files
abbrev pub names_of : List NamedFile → List (List ℕ)
names_of files = map (λ f. f.name) files

-- what the names of these files tell
abbrev pub directory : Numbered → Directory
directory files = record { names = names_of files.living; numbers = files.numbers; next = files.made }

-- the number of the file of a name
abbrev pub number_named : Directory → List ℕ → Option ℕ
number_named dir name = at_place dir.numbers (position (λ other. bytes_eq other name) dir.names)

-- a name has another length than 1 to 32 bytes
abbrev pub is_bad_length : ℕ → Bool
is_bad_length n = (n == 0) || nat_lt longest_name n

-- the descriptor fd stands for the start of a file
abbrev pub opened : ℕ → ℕ → Bool → List Slot
opened fd file writes = record { fd = fd; holds = Some (descriptor.File file 0 writes) } ∷ []

-- open by mode 2 of a file that is there: it is emptied
abbrev pub open_emptied : ℕ → ℕ → CallEffect
open_emptied fd file = record (only (number fd)) {
  reads = carrier.Names ∷ carrier.File file ∷ [];
  writes = carrier.File file ∷ [];
  edit = Some (edit.Empty file);
  slots = opened fd file true;
}

-- open by mode 0 or 1 of a file that is there
abbrev pub open_there : ℕ → ℕ → Bool → CallEffect
open_there fd file writes = record (only (number fd)) { reads = carrier.Names ∷ []; slots = opened fd file writes }

-- open by mode 2 of a name that is not there: a new file, the next by number
abbrev pub open_new : ℕ → ℕ → List ℕ → CallEffect
open_new fd file name = record (only (number fd)) {
  reads = carrier.Names ∷ carrier.File file ∷ [];
  writes = carrier.Names ∷ carrier.File file ∷ [];
  edit = Some (edit.Create name);
  slots = opened fd file true;
}

-- open by mode 2 of a name that is not there
abbrev pub open_made : Directory → ℕ → List ℕ → CallEffect
open_made dir fd name =
    if nat_le most_files (length dir.names) then record (failure table_full) { reads = carrier.Names ∷ []; writes = carrier.Names ∷ [] }
    else open_new fd dir.next name

-- open of a good name by a free descriptor, by mode and by whether there is a file of the name
abbrev pub open_file : Directory → ℕ → ℕ → List ℕ → Option ℕ → CallEffect
open_file dir fd mode name (Some file) = if mode == 2 then open_emptied fd file else open_there fd file (mode == 1)
open_file dir fd mode name None =
    if mode == 2 then open_made dir fd name else record (failure no_such_file) { reads = carrier.Names ∷ [] }

-- open of a good name, where a descriptor may be free
abbrev pub open_free : Directory → Option ℕ → ℕ → List ℕ → CallEffect
open_free dir None mode name = failure too_many_descriptors
open_free dir (Some fd) mode name = open_file dir fd mode name (number_named dir name)

-- open of a name that may be None
abbrev pub open_named : Directory → List (Option Descriptor) → ℕ → Option (List ℕ) → CallEffect
open_named dir ds mode None = failure bad_address
open_named dir ds mode (Some name) =
    if not (list_all is_name_byte name) then failure bad_argument else open_free dir (free_descriptor ds) mode name

-- open of a name of n bytes by a mode, in this directory
abbrev pub row_open : Directory → List (Option Descriptor) → ℕ → ℕ → Option (List ℕ) → CallEffect
row_open dir ds n mode name =
    if nat_lt 2 mode then failure bad_argument
    else if is_bad_length n then failure bad_argument
    else open_named dir ds mode name

-- ---- unlink

-- unlink, of the file of a name, if there is one
abbrev pub unlink_file : Option ℕ → CallEffect
unlink_file None = record (failure no_such_file) { reads = carrier.Names ∷ [] }
unlink_file (Some file) = record (only (number 0)) {
  reads = carrier.Names ∷ carrier.File file ∷ [];
  writes = carrier.Names ∷ carrier.File file ∷ [];
  edit = Some (edit.Remove file);
}

-- unlink, of a name that may be None
abbrev pub unlink_named : Directory → Option (List ℕ) → CallEffect
unlink_named dir None = failure bad_address
unlink_named dir (Some name) = if not (list_all is_name_byte name) then failure bad_argument else unlink_file (number_named dir name)

-- unlink, of a name of n bytes, in this directory
abbrev pub row_unlink : Directory → ℕ → Option (List ℕ) → CallEffect
row_unlink dir n name = if is_bad_length n then failure bad_argument else unlink_named dir name

-- ---- rename

-- the file that loses its name, if one does, as a carrier
abbrev pub loser_carriers : Option ℕ → List Carrier
loser_carriers None = []
loser_carriers (Some file) = carrier.File file ∷ []

-- rename, of a file to a new name, which another file may have: that one loses it
abbrev pub rename_to : ℕ → List ℕ → Option ℕ → CallEffect
rename_to file new loser = record (only (number 0)) {
  reads = carrier.Names ∷ carrier.File file ∷ loser_carriers loser;
  writes = carrier.Names ∷ carrier.File file ∷ loser_carriers loser;
  edit = Some (edit.Rename file new);
}

-- rename, of the file of an old name, if there is one, to a new name
abbrev pub rename_file : Directory → List ℕ → List ℕ → Option ℕ → CallEffect
rename_file dir old new None = record (failure no_such_file) { reads = carrier.Names ∷ [] }
rename_file dir old new (Some file) =
    if bytes_eq old new then record (only (number 0)) { reads = carrier.Names ∷ [] } else rename_to file new (number_named dir new)

-- rename, of an old name and a new one
abbrev pub rename_named : Directory → List ℕ → List ℕ → CallEffect
rename_named dir old new =
    if not (list_all is_name_byte old && list_all is_name_byte new) then failure bad_argument
    else rename_file dir old new (number_named dir old)

-- rename, of names that may be None: the first n bytes are the old name, those after them the new one
abbrev pub rename_read : Directory → ℕ → Option (List ℕ) → CallEffect
rename_read dir n None = failure bad_address
rename_read dir n (Some names) = rename_named dir (take n names) (drop n names)

-- rename, of a name of n bytes to one of m bytes, in this directory
abbrev pub row_rename : Directory → ℕ → ℕ → Option (List ℕ) → CallEffect
row_rename dir n m names = if is_bad_length n || is_bad_length m then failure bad_argument else rename_read dir n names

-- ---- exec

-- exec, of the file of this number and these bytes: the process goes on from the first state of the image that they are, unless
-- they have a fault
abbrev pub exec_image : ℕ → List ℕ → Option ElfFault → CallEffect
exec_image file bytes None = record (only (Replies (record { a0 = 0; at = 0; bytes = []; image = Some (program_in bytes) }))) {
  reads = carrier.Names ∷ carrier.File file ∷ [];
}
exec_image file bytes (Some fault) = record (failure not_an_image) { reads = carrier.Names ∷ carrier.File file ∷ [] }

-- exec, of the file of this number, which lives where a name has it
abbrev pub exec_found : ℕ → Option NamedFile → CallEffect
exec_found file None = record (failure no_such_file) { reads = carrier.Names ∷ [] }
exec_found file (Some f) = exec_image file f.bytes (first_fault f.bytes)

-- exec, of the file of a name, if there is one
abbrev pub exec_file : Numbered → Option ℕ → CallEffect
exec_file files None = record (failure no_such_file) { reads = carrier.Names ∷ [] }
exec_file files (Some file) = exec_found file (file_of files file)

-- exec, of a name that may be None
abbrev pub exec_named : Numbered → Option (List ℕ) → CallEffect
exec_named files None = failure bad_address
exec_named files (Some name) =
    if not (list_all is_name_byte name) then failure bad_argument else exec_file files (number_named (directory files) name)

-- exec, of a name of n bytes, of these files
abbrev pub row_exec : Numbered → ℕ → Option (List ℕ) → CallEffect
row_exec files n name = if is_bad_length n then failure bad_argument else exec_named files name

-- ---- pipe

-- the least free descriptor after one that may be there
abbrev pub free_after : List (Option Descriptor) → Option ℕ → Option ℕ
free_after ds None = None
free_after ds (Some fd) = option_map (λ further. fd + 1 + further) (position is_none (drop (fd + 1) ds))

-- a new pipe, the next by number, whose ends two descriptors stand for, which are written to a place as two words
abbrev pub pipe_made : ℕ → ℕ → ℕ → ℕ → CallEffect
pipe_made k at reader writer = record (only (with_bytes 0 at (to_le_bytes w32 reader ++ to_le_bytes w32 writer))) {
  reads = carrier.Pipes ∷ carrier.Pipe k ∷ [];
  writes = carrier.Pipes ∷ carrier.Pipe k ∷ [];
  pipes = pipe_step.Open ∷ [];
  slots = record { fd = reader; holds = Some (descriptor.Pipe (pipe_end.Read k)) }
      ∷ record { fd = writer; holds = Some (descriptor.Pipe (pipe_end.Write k)) } ∷ [];
}

-- pipe, where there are so many pipes, and the two least free descriptors may be there
abbrev pub pipe_free : ℕ → ℕ → Option ℕ → Option ℕ → CallEffect
pipe_free count at (Some reader) (Some writer) =
    if nat_le most_pipes count then record (failure table_full) { reads = carrier.Pipes ∷ []; writes = carrier.Pipes ∷ [] }
    else pipe_made count at reader writer
pipe_free count at (Some reader) None = failure too_many_descriptors
pipe_free count at None writer = failure too_many_descriptors

-- pipe, where there are so many pipes, with a place that may be too small for two words
abbrev pub row_pipe : ℕ → List (Option Descriptor) → ℕ → Bool → CallEffect
row_pipe count ds at fits =
    if not fits then failure bad_address
    else pipe_free count at (free_descriptor ds) (free_after ds (free_descriptor ds))

-- ---- fork

-- fork, where there are so many processes, by a caller with these descriptors: the next process by number, which has the
-- caller's descriptors, and so one more for each end of a pipe
abbrev pub row_fork : ℕ → List (Option Descriptor) → CallEffect
row_fork count ds =
    let ends = ends_of ds in
    let carriers = map carrier_of ends in
    let child = count + 1 in
    if nat_le most_processes count then record (failure table_full) { reads = carrier.Tasks ∷ carriers; writes = carrier.Tasks ∷ carriers }
    else record (only (number child)) {
      reads = carrier.Tasks ∷ carrier.Proc child ∷ carriers;
      writes = carrier.Tasks ∷ carrier.Proc child ∷ carriers;
      pipes = map pipe_step.Add ends;
      child = Some child;
    }

-- ---- wait

-- a child that has ended, and its status
pub record EndedChild : Type 0 where
  pub child : ℕ
  pub status : ℕ

-- the status with which process p has ended, if it has
abbrev pub status_in : List (Option ℕ) → ℕ → Option ℕ
status_in statuses zero = None
status_in statuses (suc n) = unwrap_or (slice_get statuses n) None

-- this child, if it has ended, or else one of those after it
abbrev pub ended_or : ℕ → Option ℕ → Option EndedChild → Option EndedChild
ended_or child (Some status) after = Some (record { child = child; status = status })
ended_or child None after = after

-- the first of these children that has ended; in a run the least by number that has, `kernel_model::first_ended_is_least`
abbrev pub first_ended : List (Option ℕ) → List ℕ → Option EndedChild
first_ended statuses [] = None
first_ended statuses (child ∷ children) = ended_or child (status_in statuses child) (first_ended statuses children)

-- wait, with these children, where one may have ended: its number, and its status as a word at the place, unless that is 0
abbrev pub wait_ended : ℕ → List ℕ → Option EndedChild → CallEffect
wait_ended at children None = record (only Waits) { reads = map carrier.Proc children }
wait_ended at children (Some e) =
    record (only (if at == 0 then number e.child else with_bytes e.child at (to_le_bytes w32 e.status))) {
      reads = map carrier.Proc children;
      collects = Some e.child;
    }

-- wait, with these children left to collect, of processes with these statuses, with a place that may be too small for a word
abbrev pub row_wait : List (Option ℕ) → List ℕ → ℕ → Bool → CallEffect
row_wait statuses children at fits =
    if not fits then failure bad_address
    else if length children == 0 then failure no_child
    else wait_ended at children (first_ended statuses children)

-- ---- the table

-- the table: a row for each request of process p with these descriptors and these children left to collect
abbrev pub row : Shared → ℕ → List (Option Descriptor) → List ℕ → Request → CallEffect
row s p ds children (request.Exit status) = row_end ds (status % 256)
row s p ds children (request.Write fd n bytes) = row_write s (descriptor_at ds fd) fd n bytes
row s p ds children (request.Read fd at n fits) = row_read s (descriptor_at ds fd) fd at n fits
row s p ds children (request.Open n mode name) = row_open (directory s.files) ds n mode name
row s p ds children (request.Close fd) = row_close (descriptor_at ds fd) fd
row s p ds children (request.Pipe at fits) = row_pipe (length s.pipes) ds at fits
row s p ds children request.Fork = row_fork (length s.statuses) ds
row s p ds children (request.Wait at fits) = row_wait s.statuses children at fits
row s p ds children request.GetPid = only (number p)
row s p ds children (request.Seek fd offset) = row_seek s.files (descriptor_at ds fd) fd offset
row s p ds children request.Sync = only (number 0)
row s p ds children (request.Unlink n name) = row_unlink (directory s.files) n name
row s p ds children (request.Rename n m names) = row_rename (directory s.files) n m names
row s p ds children (request.Exec n name) = row_exec s.files n name
row s p ds children request.Unknown = failure no_such_call
