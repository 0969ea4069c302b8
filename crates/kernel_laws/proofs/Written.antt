-- What a row writes it reads.
use Rattle.std.proofs.Common.{◌≡◌, ℕ, ◌+◌, ◌==◌, ◌||◌, ◌&&◌, not, nat_lt, nat_le, Bool, true, false, List, [], ◌∷◌, length, map, take, drop, slice_get, Option, Some, None, IfSome, refl, subst}
use Rattle.std.specs.Prelude.{if◌then◌else◌}
use Rattle.std.specs.List.{AllByRecursion, list_all}
use Rattle.std.specs.Str.{bytes_eq}
use Rattle.std.proofs.lemmas.Bool.{eq-eqb, or_left, or_right}
use Rattle.disk_model.specs.declared.change.NamedFile.{NamedFile}
use Rattle.disk_model.specs.Files.{is_name_byte}
use Rattle.disk_model.specs.Numbers.{Numbered, file_of, lives}
use Rattle.disk_model.specs.Limits.{most_files, longest_file}
use Rattle.machine_model.specs.declared.stop.Stop.{Stop}
use Rattle.machine_model.specs.declared.stop.Stop.TheVariants.{Limit, Call, Trap}
use Rattle.machine_model.specs.States.{stopped_at}
use Rattle.image_model.specs.declared.fault.ElfFault.{ElfFault}
use Rattle.image_model.specs.Checks.{first_fault}
use Rattle.kernel_model.specs.Entries.{is_same, is_among}
use Rattle.kernel_model.specs.Requests.{most_bytes, request_of}
use Rattle.kernel_model.specs.Rows.{CallEffect, looking_at, Directory, directory, number_named, is_bad_length, row_seek, row_unlink, unlink_named, unlink_file, row_rename, rename_read, rename_file, rename_to, row_exec, exec_named, exec_file, exec_found, exec_image, EndedChild, carrier_of, ends_of, row, row_write, may_write, write_read, write_to, write_pipe, row_read, may_read, read_from, read_file, read_tape, read_pipe, row_close, row_open, open_named, open_free, open_file, row_pipe, pipe_free, row_fork, row_wait, wait_ended, first_ended, free_descriptor, free_after, descriptor_at, most_pipes, most_processes, pipe_size}
use Rattle.kernel_model.specs.State.{SyncState, Process, Shared, shared, PipeState, TapeState, unread}
use Rattle.kernel_model.specs.Steps.{Transition, after_effect, effect_at, step}
use Rattle.kernel_model.specs.declared.carrier.Carrier.{Carrier}
use Rattle.kernel_model.specs.declared.carrier.Carrier.TheVariants as carrier
use Rattle.kernel_model.specs.declared.descriptor.Descriptor.{Descriptor}
use Rattle.kernel_model.specs.declared.descriptor.Descriptor.TheVariants as descriptor
use Rattle.kernel_model.specs.declared.descriptor.PipeEnd.TheVariants as pipe_end
use Rattle.kernel_model.specs.declared.event.Event.{Event}
use Rattle.kernel_model.specs.declared.request.Request.{Request}
use Rattle.kernel_model.specs.declared.request.Request.TheVariants as request
use Rattle.kernel_model.specs.declared.request.Verdict.{Verdict}
use Rattle.kernel_model.specs.declared.request.Verdict.TheVariants.{Waits, Replies, Ends}
use Rattle.kernel_model.proofs.Meets.{same_self}
use Rattle.kernel_model.proofs.Transitions.{each_event, of_step}
use Rattle.disk_model.proofs.Lists.{each_more}

abbrev pub AreAmong : List Carrier → List Carrier → Type 0
AreAmong cs ds = AllByRecursion (λ (c : Carrier). is_among c ds ≡ true) cs

-- what it writes it reads
abbrev pub ReadsWritten : CallEffect → Type 0
ReadsWritten e = AreAmong e.writes e.reads

among_more : (c : Carrier) (cs ds : List Carrier) → AreAmong cs ds → AreAmong cs (c ∷ ds)
among_more c cs ds h = each_more (λ (x : Carrier). is_among x ds ≡ true) (λ (x : Carrier). is_among x (c ∷ ds) ≡ true) (λ x m. or_right (is_same x c) (is_among x ds) m) cs h

pub among_self : (cs : List Carrier) → AreAmong cs cs
among_self [] = tt
among_self (c ∷ cs) = (or_left (is_same c c) (is_among c cs) (same_self c), among_more c cs cs (among_self cs))

-- whatever a test comes to
either : (b : Bool) (x y : CallEffect) → ReadsWritten x → ReadsWritten y → ReadsWritten (if b then x else y)
either true x y f g = f
either false x y f g = g

look_either : (d : Option Descriptor) (b : Bool) (x y : CallEffect) → ReadsWritten (looking_at d x) → ReadsWritten (looking_at d y) → ReadsWritten (looking_at d (if b then x else y))
look_either d true x y f g = f
look_either d false x y f g = g

pipe_itself : (k : ℕ) → AreAmong (carrier.Pipe k ∷ []) (carrier.Pipe k ∷ [])
pipe_itself k = among_self (carrier.Pipe k ∷ [])

write_to_reads : (s : Shared) (d : Option Descriptor) (fd : ℕ) (bytes : List ℕ) → ReadsWritten (looking_at d (write_to s d fd bytes))
write_to_reads s None fd bytes = tt
write_to_reads s (Some (descriptor.Tape k)) fd bytes = tt
write_to_reads s (Some (descriptor.Terminal k)) fd bytes = tt
write_to_reads s (Some (descriptor.File file offset true)) fd bytes =
    look_either (Some (descriptor.File file offset true)) (nat_lt longest_file (offset + length bytes)) _ _ tt (among_self (carrier.File file ∷ []))
write_to_reads s (Some (descriptor.File file offset false)) fd bytes = tt
write_to_reads s (Some (descriptor.Pipe (pipe_end.Read k))) fd bytes = tt
write_to_reads s (Some (descriptor.Pipe (pipe_end.Write k))) fd bytes = by (slice_get s.pipes k)
  where
    by : (o : Option PipeState) → ReadsWritten (write_pipe k bytes o)
    by None = tt
    by (Some p) = either (p.readers == 0) _ _ (pipe_itself k) (either (nat_le pipe_size (length (unread p))) _ _ (pipe_itself k) (pipe_itself k))

write_read_reads : (s : Shared) (d : Option Descriptor) (fd : ℕ) (o : Option (List ℕ)) → ReadsWritten (looking_at d (write_read s d fd o))
write_read_reads s d fd None = tt
write_read_reads s d fd (Some bytes) = write_to_reads s d fd bytes

row_write_reads : (s : Shared) (d : Option Descriptor) (fd n : ℕ) (o : Option (List ℕ)) → ReadsWritten (row_write s d fd n o)
row_write_reads s d fd n o =
    look_either d (not (may_write s.files d)) _ _ tt (look_either d (nat_lt most_bytes n) _ _ tt (look_either d (n == 0) _ _ tt (write_read_reads s d fd o)))

read_from_reads : (s : Shared) (d : Option Descriptor) (fd at n : ℕ) → ReadsWritten (looking_at d (read_from s d fd at n))
read_from_reads s None fd at n = tt
read_from_reads s (Some (descriptor.Tape k)) fd at n = by (slice_get s.tapes k)
  where
    by : (o : Option TapeState) → ReadsWritten (read_tape k at n o)
    by None = tt
    by (Some tape) = among_self (carrier.Tape k ∷ [])
read_from_reads s (Some (descriptor.Terminal k)) fd at n = tt
read_from_reads s (Some (descriptor.File file offset true)) fd at n = tt
read_from_reads s (Some (descriptor.File file offset false)) fd at n = by (file_of s.files file)
  where
    by : (o : Option NamedFile) → ReadsWritten (looking_at (Some (descriptor.File file offset false)) (read_file fd file offset at n o))
    by None = tt
    by (Some f) = tt
read_from_reads s (Some (descriptor.Pipe (pipe_end.Read k))) fd at n = by (slice_get s.pipes k)
  where
    by : (o : Option PipeState) → ReadsWritten (read_pipe k at n o)
    by None = tt
    by (Some p) = either (nat_lt 0 (length (unread p))) _ _ (pipe_itself k) (either (p.writers == 0) _ _ (pipe_itself k) (pipe_itself k))
read_from_reads s (Some (descriptor.Pipe (pipe_end.Write k))) fd at n = tt

row_read_reads : (s : Shared) (d : Option Descriptor) (fd at n : ℕ) (fits : Bool) → ReadsWritten (row_read s d fd at n fits)
row_read_reads s d fd at n fits =
    look_either d (not (may_read s.files d)) _ _ tt (look_either d (nat_lt most_bytes n) _ _ tt (look_either d (n == 0) _ _ tt
    (look_either d (not fits) _ _ tt (read_from_reads s d fd at n))))

row_seek_reads : (files : Numbered) (d : Option Descriptor) (fd offset : ℕ) → ReadsWritten (row_seek files d fd offset)
row_seek_reads files None fd offset = tt
row_seek_reads files (Some (descriptor.Tape k)) fd offset = tt
row_seek_reads files (Some (descriptor.Terminal k)) fd offset = tt
row_seek_reads files (Some (descriptor.Pipe end)) fd offset = tt
row_seek_reads files (Some (descriptor.File file old writes)) fd offset =
    look_either (Some (descriptor.File file old writes)) (not (lives files file)) _ _ tt (look_either (Some (descriptor.File file old writes)) (nat_lt longest_file offset) _ _ tt tt)

open_file_reads : (dir : Directory) (fd mode : ℕ) (name : List ℕ) (o : Option ℕ) → ReadsWritten (open_file dir fd mode name o)
open_file_reads dir fd mode name (Some file) =
    either (mode == 2) _ _ (or_right false _ (or_left (file == file) false (eq-eqb file file refl)), tt) tt
open_file_reads dir fd mode name None =
    either (mode == 2) _ _ (either (nat_le most_files (length dir.names)) _ _ (among_self (carrier.Names ∷ [])) (among_self (carrier.Names ∷ carrier.File dir.next ∷ []))) tt

open_named_reads : (dir : Directory) (ds : List (Option Descriptor)) (mode : ℕ) (o : Option (List ℕ)) → ReadsWritten (open_named dir ds mode o)
open_named_reads dir ds mode None = tt
open_named_reads dir ds mode (Some name) = either (not (list_all is_name_byte name)) _ _ tt (by (free_descriptor ds))
  where
    by : (o : Option ℕ) → ReadsWritten (open_free dir o mode name)
    by None = tt
    by (Some fd) = open_file_reads dir fd mode name (number_named dir name)

row_open_reads : (dir : Directory) (ds : List (Option Descriptor)) (n mode : ℕ) (o : Option (List ℕ)) → ReadsWritten (row_open dir ds n mode o)
row_open_reads dir ds n mode o = either (nat_lt 2 mode) _ _ tt (either (is_bad_length n) _ _ tt (open_named_reads dir ds mode o))

row_unlink_reads : (dir : Directory) (n : ℕ) (o : Option (List ℕ)) → ReadsWritten (row_unlink dir n o)
row_unlink_reads dir n o = either (is_bad_length n) _ _ tt (named o)
  where
    unlinked : (p : Option ℕ) → ReadsWritten (unlink_file p)
    unlinked None = tt
    unlinked (Some file) = among_self (carrier.Names ∷ carrier.File file ∷ [])

    named : (o : Option (List ℕ)) → ReadsWritten (unlink_named dir o)
    named None = tt
    named (Some name) = either (not (list_all is_name_byte name)) _ _ tt (unlinked (number_named dir name))

row_rename_reads : (dir : Directory) (n m : ℕ) (o : Option (List ℕ)) → ReadsWritten (row_rename dir n m o)
row_rename_reads dir n m o = either (is_bad_length n || is_bad_length m) _ _ tt (read o)
  where
    renamed : (old new : List ℕ) (p : Option ℕ) → ReadsWritten (rename_file dir old new p)
    renamed old new None = tt
    renamed old new (Some file) = either (bytes_eq old new) _ _ tt (among_self (rename_to file new (number_named dir new)).reads)

    read : (o : Option (List ℕ)) → ReadsWritten (rename_read dir n o)
    read None = tt
    read (Some names) = either (not (list_all is_name_byte (take n names) && list_all is_name_byte (drop n names))) _ _ tt (renamed (take n names) (drop n names) (number_named dir (take n names)))

row_exec_reads : (files : Numbered) (n : ℕ) (o : Option (List ℕ)) → ReadsWritten (row_exec files n o)
row_exec_reads files n o = either (is_bad_length n) _ _ tt (named o)
  where
    image : (file : ℕ) (bytes : List ℕ) (p : Option ElfFault) → ReadsWritten (exec_image file bytes p)
    image file bytes None = tt
    image file bytes (Some fault) = tt

    found : (file : ℕ) (p : Option NamedFile) → ReadsWritten (exec_found file p)
    found file None = tt
    found file (Some f) = image file f.bytes (first_fault f.bytes)

    of_number : (p : Option ℕ) → ReadsWritten (exec_file files p)
    of_number None = tt
    of_number (Some file) = found file (file_of files file)

    named : (p : Option (List ℕ)) → ReadsWritten (exec_named files p)
    named None = tt
    named (Some name) = either (not (list_all is_name_byte name)) _ _ tt (of_number (number_named (directory files) name))

row_close_reads : (d : Option Descriptor) (fd : ℕ) → ReadsWritten (row_close d fd)
row_close_reads None fd = tt
row_close_reads (Some d) fd = among_self (map carrier_of (ends_of (Some d ∷ [])))

row_pipe_reads : (count : ℕ) (ds : List (Option Descriptor)) (at : ℕ) (fits : Bool) → ReadsWritten (row_pipe count ds at fits)
row_pipe_reads count ds at fits = either (not fits) _ _ tt (by (free_descriptor ds) (free_after ds (free_descriptor ds)))
  where
    by : (r w : Option ℕ) → ReadsWritten (pipe_free count at r w)
    by (Some r) (Some w) = either (nat_le most_pipes count) _ _ (among_self (carrier.Pipes ∷ [])) (among_self (carrier.Pipes ∷ carrier.Pipe count ∷ []))
    by (Some r) None = tt
    by None w = tt

row_fork_reads : (count : ℕ) (ds : List (Option Descriptor)) → ReadsWritten (row_fork count ds)
row_fork_reads count ds =
    either (nat_le most_processes count) _ _ (among_self (carrier.Tasks ∷ map carrier_of (ends_of ds))) (among_self (carrier.Tasks ∷ carrier.Proc (count + 1) ∷ map carrier_of (ends_of ds)))

row_wait_reads : (statuses : List (Option ℕ)) (children : List ℕ) (at : ℕ) (fits : Bool) → ReadsWritten (row_wait statuses children at fits)
row_wait_reads statuses children at fits = either (not fits) _ _ tt (either (length children == 0) _ _ tt (by (first_ended statuses children)))
  where
    by : (o : Option EndedChild) → ReadsWritten (wait_ended at children o)
    by None = tt
    by (Some e) = tt

row_reads : (s : Shared) (p : ℕ) (ds : List (Option Descriptor)) (children : List ℕ) (r : Request) → ReadsWritten (row s p ds children r)
row_reads s p ds children (request.Exit status) = among_self (map carrier_of (ends_of ds))
row_reads s p ds children (request.Write fd n bytes) = row_write_reads s (descriptor_at ds fd) fd n bytes
row_reads s p ds children (request.Read fd at n fits) = row_read_reads s (descriptor_at ds fd) fd at n fits
row_reads s p ds children (request.Open n mode name) = row_open_reads (directory s.files) ds n mode name
row_reads s p ds children (request.Close fd) = row_close_reads (descriptor_at ds fd) fd
row_reads s p ds children (request.Pipe at fits) = row_pipe_reads (length s.pipes) ds at fits
row_reads s p ds children request.Fork = row_fork_reads (length s.statuses) ds
row_reads s p ds children (request.Wait at fits) = row_wait_reads s.statuses children at fits
row_reads s p ds children request.GetPid = tt
row_reads s p ds children (request.Seek fd offset) = row_seek_reads s.files (descriptor_at ds fd) fd offset
row_reads s p ds children request.Sync = tt
row_reads s p ds children (request.Unlink n name) = row_unlink_reads (directory s.files) n name
row_reads s p ds children (request.Rename n m names) = row_rename_reads (directory s.files) n m names
row_reads s p ds children (request.Exec n name) = row_exec_reads s.files n name
row_reads s p ds children request.Unknown = tt

effect_reads : (s : Shared) (pid : ℕ) (p : Process) (stop : Option Stop) → IfSome (effect_at s pid p stop) ReadsWritten
effect_reads s pid p (Some Call) = row_reads s pid p.descriptors p.children (request_of p.state)
effect_reads s pid p (Some (Trap cause)) = among_self (map carrier_of (ends_of p.descriptors))
effect_reads s pid p (Some Limit) = tt
effect_reads s pid p None = tt

own_too : (pid : ℕ) (e : CallEffect) → ReadsWritten e → AreAmong (carrier.Proc pid ∷ e.writes) (carrier.Proc pid ∷ e.reads)
own_too pid e h = (or_left (pid == pid) (is_among (carrier.Proc pid) e.reads) (eq-eqb pid pid refl), among_more (carrier.Proc pid) e.writes e.reads h)

after_reads : (s : SyncState) (pid : ℕ) (p : Process) (e : CallEffect) (v : Verdict) → ReadsWritten e → AreAmong (after_effect s pid p e v).entry.writes (after_effect s pid p e v).entry.reads
after_reads s pid p e Waits h = tt
after_reads s pid p e (Replies r) h = own_too pid e h
after_reads s pid p e (Ends status) h = own_too pid e h

-- so does each event
pub step_reads : (s : SyncState) (e : Event) → AreAmong (step s e).entry.writes (step s e).entry.reads
step_reads s e = of_step (λ (t : Transition). AreAmong t.entry.writes t.entry.reads) s tt
    (λ pid. each_event (λ (t : Transition). AreAmong t.entry.writes t.entry.reads) s pid tt
    (λ n p at lives. among_self (carrier.Proc pid ∷ []))
    (λ p f at lives is. after_reads s pid p f f.verdict (subst (λ (o : Option CallEffect). IfSome o ReadsWritten) is (effect_reads (shared s) pid p (stopped_at p.state))))) e
