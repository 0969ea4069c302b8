-- A call that writes to a terminal is a write, by a descriptor that stands for it.
use Rattle.std.proofs.Common.{◌≡◌, ◌∙◌, ℕ, ◌+◌, ◌==◌, ◌||◌, ◌&&◌, not, nat_lt, nat_le, Bool, true, false, List, length, take, drop, slice_get, slice_index, Option, Some, None, is_some, refl, sym, ap, subst}
use Rattle.std.specs.Prelude.{if◌then◌else◌}
use Rattle.std.specs.List.{list_all}
use Rattle.std.specs.Str.{bytes_eq}
use Rattle.std.proofs.lemmas.Bool.{eq-eqb}
use Rattle.memory_model.specs.Memory.{Memory}
use Rattle.disk_model.specs.declared.change.NamedFile.{NamedFile}
use Rattle.disk_model.specs.Files.{is_name_byte}
use Rattle.disk_model.specs.Numbers.{Numbered, file_of, lives}
use Rattle.disk_model.specs.Limits.{most_files, longest_file}
use Rattle.machine_model.specs.declared.stop.Stop.{Stop}
use Rattle.machine_model.specs.declared.stop.Stop.TheVariants.{Limit, Call, Trap}
use Rattle.machine_model.specs.States.{stopped_at}
use Rattle.image_model.specs.declared.fault.ElfFault.{ElfFault}
use Rattle.image_model.specs.Checks.{first_fault}
use Rattle.kernel_model.specs.Requests.{most_bytes, request_by, request_of}
use Rattle.kernel_model.specs.Rows.{CallEffect, looking_at, Directory, directory, number_named, is_bad_length, row_seek, row_unlink, unlink_named, unlink_file, row_rename, rename_read, rename_file, row_exec, exec_named, exec_file, exec_found, exec_image, EndedChild, row, row_write, may_write, write_read, write_to, write_pipe, row_read, may_read, read_from, read_file, read_tape, read_pipe, row_close, row_open, open_named, open_free, open_file, row_pipe, pipe_free, row_wait, wait_ended, first_ended, free_descriptor, free_after, descriptor_at, most_pipes, most_processes, pipe_size}
use Rattle.kernel_model.specs.State.{SyncState, Process, Shared, PipeState, TapeState, process_at, shared, unread}
use Rattle.kernel_model.specs.Steps.{after_effect, after_effect_if, after_enter, effect_at, impossible}
use Rattle.kernel_model.specs.declared.descriptor.Descriptor.{Descriptor}
use Rattle.kernel_model.specs.declared.descriptor.Descriptor.TheVariants as descriptor
use Rattle.kernel_model.specs.declared.descriptor.PipeEnd.TheVariants as pipe_end
use Rattle.kernel_model.specs.declared.effect.Output.{Output}
use Rattle.kernel_model.specs.declared.request.Request.{Request}
use Rattle.kernel_model.specs.declared.request.Request.TheVariants as request
use Rattle.kernel_model.specs.declared.request.Verdict.{Verdict}
use Rattle.kernel_model.specs.declared.request.Verdict.TheVariants.{Waits, Replies, Ends}
use Rattle.replayed_runs.specs.Owning.{GoesTo, is_terminal, terminal_of, written_by}

-- ---- rows other than that of write have no output
record IsSilent (e : CallEffect) : Type 0 where
  pub none : e.output ≡ None

either : (b : Bool) (x y : CallEffect) → IsSilent x → IsSilent y → IsSilent (if b then x else y)
either true x y f g = f
either false x y f g = g

look : (d : Option Descriptor) (e : CallEffect) → IsSilent e → IsSilent (looking_at d e)
look None e h = h
look (Some (descriptor.Tape t)) e h = h
look (Some (descriptor.Terminal t)) e h = h
look (Some (descriptor.Pipe end)) e h = h
look (Some (descriptor.File file offset writes)) e h = record { none = h.none }

read_from_silent : (s : Shared) (d : Option Descriptor) (fd at n : ℕ) → IsSilent (read_from s d fd at n)
read_from_silent s None fd at n = record { none = refl }
read_from_silent s (Some (descriptor.Tape k)) fd at n = by (slice_get s.tapes k)
  where
    by : (o : Option TapeState) → IsSilent (read_tape k at n o)
    by None = record { none = refl }
    by (Some tape) = record { none = refl }
read_from_silent s (Some (descriptor.Terminal k)) fd at n = record { none = refl }
read_from_silent s (Some (descriptor.File file offset true)) fd at n = record { none = refl }
read_from_silent s (Some (descriptor.File file offset false)) fd at n = by (file_of s.files file)
  where
    by : (o : Option NamedFile) → IsSilent (read_file fd file offset at n o)
    by None = record { none = refl }
    by (Some f) = record { none = refl }
read_from_silent s (Some (descriptor.Pipe (pipe_end.Read k))) fd at n = by (slice_get s.pipes k)
  where
    by : (o : Option PipeState) → IsSilent (read_pipe k at n o)
    by None = record { none = refl }
    by (Some p) = either (nat_lt 0 (length (unread p))) _ _ (record { none = refl }) (either (p.writers == 0) _ _ (record { none = refl }) (record { none = refl }))
read_from_silent s (Some (descriptor.Pipe (pipe_end.Write k))) fd at n = record { none = refl }

row_read_silent : (s : Shared) (d : Option Descriptor) (fd at n : ℕ) (fits : Bool) → IsSilent (row_read s d fd at n fits)
row_read_silent s d fd at n fits =
    look d _ (either (not (may_read s.files d)) _ _ (record { none = refl }) (either (nat_lt most_bytes n) _ _ (record { none = refl }) (either (n == 0) _ _ (record { none = refl })
    (either (not fits) _ _ (record { none = refl }) (read_from_silent s d fd at n)))))

row_seek_silent : (files : Numbered) (d : Option Descriptor) (fd offset : ℕ) → IsSilent (row_seek files d fd offset)
row_seek_silent files None fd offset = record { none = refl }
row_seek_silent files (Some (descriptor.Tape k)) fd offset = record { none = refl }
row_seek_silent files (Some (descriptor.Terminal k)) fd offset = record { none = refl }
row_seek_silent files (Some (descriptor.Pipe end)) fd offset = record { none = refl }
row_seek_silent files (Some (descriptor.File file old writes)) fd offset =
    look (Some (descriptor.File file old writes)) _ (either (not (lives files file)) _ _ (record { none = refl }) (either (nat_lt longest_file offset) _ _ (record { none = refl }) (record { none = refl })))

row_open_silent : (dir : Directory) (ds : List (Option Descriptor)) (n mode : ℕ) (o : Option (List ℕ)) → IsSilent (row_open dir ds n mode o)
row_open_silent dir ds n mode o = either (nat_lt 2 mode) _ _ (record { none = refl }) (either (is_bad_length n) _ _ (record { none = refl }) (named o))
  where
    file : (fd : ℕ) (name : List ℕ) (o : Option ℕ) → IsSilent (open_file dir fd mode name o)
    file fd name (Some number) = either (mode == 2) _ _ (record { none = refl }) (record { none = refl })
    file fd name None = either (mode == 2) _ _ (either (nat_le most_files (length dir.names)) _ _ (record { none = refl }) (record { none = refl })) (record { none = refl })

    free : (name : List ℕ) (o : Option ℕ) → IsSilent (open_free dir o mode name)
    free name None = record { none = refl }
    free name (Some fd) = file fd name (number_named dir name)

    named : (o : Option (List ℕ)) → IsSilent (open_named dir ds mode o)
    named None = record { none = refl }
    named (Some name) = either (not (list_all is_name_byte name)) _ _ (record { none = refl }) (free name (free_descriptor ds))

row_unlink_silent : (dir : Directory) (n : ℕ) (o : Option (List ℕ)) → IsSilent (row_unlink dir n o)
row_unlink_silent dir n o = either (is_bad_length n) _ _ (record { none = refl }) (named o)
  where
    unlinked : (p : Option ℕ) → IsSilent (unlink_file p)
    unlinked None = record { none = refl }
    unlinked (Some file) = record { none = refl }

    named : (o : Option (List ℕ)) → IsSilent (unlink_named dir o)
    named None = record { none = refl }
    named (Some name) = either (not (list_all is_name_byte name)) _ _ (record { none = refl }) (unlinked (number_named dir name))

row_rename_silent : (dir : Directory) (n m : ℕ) (o : Option (List ℕ)) → IsSilent (row_rename dir n m o)
row_rename_silent dir n m o = either (is_bad_length n || is_bad_length m) _ _ (record { none = refl }) (read o)
  where
    renamed : (old new : List ℕ) (p : Option ℕ) → IsSilent (rename_file dir old new p)
    renamed old new None = record { none = refl }
    renamed old new (Some file) = either (bytes_eq old new) _ _ (record { none = refl }) (record { none = refl })

    read : (o : Option (List ℕ)) → IsSilent (rename_read dir n o)
    read None = record { none = refl }
    read (Some names) =
        either (not (list_all is_name_byte (take n names) && list_all is_name_byte (drop n names))) _ _ (record { none = refl }) (renamed (take n names) (drop n names) (number_named dir (take n names)))

row_exec_silent : (files : Numbered) (n : ℕ) (o : Option (List ℕ)) → IsSilent (row_exec files n o)
row_exec_silent files n o = either (is_bad_length n) _ _ (record { none = refl }) (named o)
  where
    image : (file : ℕ) (bytes : List ℕ) (p : Option ElfFault) → IsSilent (exec_image file bytes p)
    image file bytes None = record { none = refl }
    image file bytes (Some fault) = record { none = refl }

    found : (file : ℕ) (p : Option NamedFile) → IsSilent (exec_found file p)
    found file None = record { none = refl }
    found file (Some f) = image file f.bytes (first_fault f.bytes)

    of_number : (p : Option ℕ) → IsSilent (exec_file files p)
    of_number None = record { none = refl }
    of_number (Some file) = found file (file_of files file)

    named : (p : Option (List ℕ)) → IsSilent (exec_named files p)
    named None = record { none = refl }
    named (Some name) = either (not (list_all is_name_byte name)) _ _ (record { none = refl }) (of_number (number_named (directory files) name))

row_close_silent : (d : Option Descriptor) (fd : ℕ) → IsSilent (row_close d fd)
row_close_silent None fd = record { none = refl }
row_close_silent (Some d) fd = record { none = refl }

row_pipe_silent : (count : ℕ) (ds : List (Option Descriptor)) (at : ℕ) (fits : Bool) → IsSilent (row_pipe count ds at fits)
row_pipe_silent count ds at fits = either (not fits) _ _ (record { none = refl }) (by (free_descriptor ds) (free_after ds (free_descriptor ds)))
  where
    by : (r w : Option ℕ) → IsSilent (pipe_free count at r w)
    by (Some r) (Some w) = either (nat_le most_pipes count) _ _ (record { none = refl }) (record { none = refl })
    by (Some r) None = record { none = refl }
    by None w = record { none = refl }

row_wait_silent : (statuses : List (Option ℕ)) (children : List ℕ) (at : ℕ) (fits : Bool) → IsSilent (row_wait statuses children at fits)
row_wait_silent statuses children at fits = either (not fits) _ _ (record { none = refl }) (either (length children == 0) _ _ (record { none = refl }) (by (first_ended statuses children)))
  where
    by : (o : Option EndedChild) → IsSilent (wait_ended at children o)
    by None = record { none = refl }
    by (Some e) = record { none = refl }

-- ---- the row of write has one by a descriptor of a terminal
module _ (terminal : Option ℕ) where
  record Goes (e : CallEffect) : Type 0 where
    pub goes : GoesTo terminal e.output

  silent : (e : CallEffect) → IsSilent e → Goes e
  silent e is = record { goes = subst (λ (o : Option Output). GoesTo terminal o) (sym is.none) tt }

  either_goes : (b : Bool) (x y : CallEffect) → Goes x → Goes y → Goes (if b then x else y)
  either_goes true x y f g = f
  either_goes false x y f g = g

  look_goes : (d : Option Descriptor) (e : CallEffect) → Goes e → Goes (looking_at d e)
  look_goes None e h = h
  look_goes (Some (descriptor.Tape t)) e h = h
  look_goes (Some (descriptor.Terminal t)) e h = h
  look_goes (Some (descriptor.Pipe end)) e h = h
  look_goes (Some (descriptor.File file offset writes)) e h = record { goes = h.goes }

  write_pipe_goes : (k : ℕ) (bytes : List ℕ) (o : Option PipeState) → Goes (write_pipe k bytes o)
  write_pipe_goes k bytes None = record { goes = tt }
  write_pipe_goes k bytes (Some p) = either_goes (p.readers == 0) _ _ (record { goes = tt }) (either_goes (nat_le pipe_size (length (unread p))) _ _ (record { goes = tt }) (record { goes = tt }))

  write_to_goes : (s : Shared) (d : Option Descriptor) (fd : ℕ) (bytes : List ℕ) → terminal ≡ terminal_of d → Goes (write_to s d fd bytes)
  write_to_goes s None fd bytes is = record { goes = tt }
  write_to_goes s (Some (descriptor.Tape k)) fd bytes is = record { goes = tt }
  write_to_goes s (Some (descriptor.Terminal k)) fd bytes is = record { goes = ap (λ (o : Option ℕ). is_terminal o k) is ∙ eq-eqb k k refl }
  write_to_goes s (Some (descriptor.File file offset true)) fd bytes is = either_goes (nat_lt longest_file (offset + length bytes)) _ _ (record { goes = tt }) (record { goes = tt })
  write_to_goes s (Some (descriptor.File file offset false)) fd bytes is = record { goes = tt }
  write_to_goes s (Some (descriptor.Pipe (pipe_end.Read k))) fd bytes is = record { goes = tt }
  write_to_goes s (Some (descriptor.Pipe (pipe_end.Write k))) fd bytes is = write_pipe_goes k bytes (slice_get s.pipes k)

  row_write_goes : (s : Shared) (d : Option Descriptor) (fd n : ℕ) (o : Option (List ℕ)) → terminal ≡ terminal_of d → Goes (row_write s d fd n o)
  row_write_goes s d fd n o is =
      look_goes d _ (either_goes (not (may_write s.files d)) _ _ (record { goes = tt }) (either_goes (nat_lt most_bytes n) _ _ (record { goes = tt }) (either_goes (n == 0) _ _ (record { goes = tt }) (by o))))
    where
      by : (o : Option (List ℕ)) → Goes (write_read s d fd o)
      by None = record { goes = tt }
      by (Some bytes) = write_to_goes s d fd bytes is

  -- what is asked of the terminal
  abbrev Fits : List (Option Descriptor) → Request → Type 0
  Fits ds (request.Write fd n bytes) = terminal ≡ terminal_of (descriptor_at ds fd)
  Fits ds r = Unit {0}

  row_goes : (s : Shared) (p : ℕ) (ds : List (Option Descriptor)) (children : List ℕ) (r : Request) → Fits ds r → Goes (row s p ds children r)
  row_goes s p ds children (request.Exit status) fits = record { goes = tt }
  row_goes s p ds children (request.Write fd n bytes) fits = row_write_goes s (descriptor_at ds fd) fd n bytes fits
  row_goes s p ds children (request.Read fd at n placed) fits = silent _ (row_read_silent s (descriptor_at ds fd) fd at n placed)
  row_goes s p ds children (request.Open n mode name) fits = silent _ (row_open_silent (directory s.files) ds n mode name)
  row_goes s p ds children (request.Close fd) fits = silent _ (row_close_silent (descriptor_at ds fd) fd)
  row_goes s p ds children (request.Pipe at placed) fits = silent _ (row_pipe_silent (length s.pipes) ds at placed)
  row_goes s p ds children request.Fork fits = silent _ (either (nat_le most_processes (length s.statuses)) _ _ (record { none = refl }) (record { none = refl }))
  row_goes s p ds children (request.Wait at placed) fits = silent _ (row_wait_silent s.statuses children at placed)
  row_goes s p ds children request.GetPid fits = record { goes = tt }
  row_goes s p ds children (request.Seek fd offset) fits = silent _ (row_seek_silent s.files (descriptor_at ds fd) fd offset)
  row_goes s p ds children request.Sync fits = record { goes = tt }
  row_goes s p ds children (request.Unlink n name) fits = silent _ (row_unlink_silent (directory s.files) n name)
  row_goes s p ds children (request.Rename n m names) fits = silent _ (row_rename_silent (directory s.files) n m names)
  row_goes s p ds children (request.Exec n name) fits = silent _ (row_exec_silent s.files n name)
  row_goes s p ds children request.Unknown fits = record { goes = tt }

  -- ---- what a machine asks for
  module _ (ds : List (Option Descriptor)) where
    if_fits : (b : Bool) (x y : Request) → (b ≡ true → Fits ds x) → Fits ds y → Fits ds (if b then x else y)
    if_fits true x y f g = f refl
    if_fits false x y f g = g

    request_fits : (number a0 a1 a2 : ℕ) (memory : Memory) → terminal ≡ written_by number (descriptor_at ds a0) → Fits ds (request_by number a0 a1 a2 memory)
    request_fits number a0 a1 a2 memory is =
        if_fits (number == 1) _ _ (λ _. tt) (
        if_fits (number == 2) _ _ (λ two. is ∙ ap (λ (b : Bool). if b then terminal_of (descriptor_at ds a0) else None) two) (
        if_fits (number == 3) _ _ (λ _. tt) (if_fits (number == 4) _ _ (λ _. tt) (if_fits (number == 5) _ _ (λ _. tt) (if_fits (number == 6) _ _ (λ _. tt) (
        if_fits (number == 7) _ _ (λ _. tt) (if_fits (number == 8) _ _ (λ _. tt) (if_fits (number == 9) _ _ (λ _. tt) (if_fits (number == 10) _ _ (λ _. tt) (
        if_fits (number == 11) _ _ (λ _. tt) (if_fits (number == 12) _ _ (λ _. tt) (if_fits (number == 13) _ _ (λ _. tt) (if_fits (number == 14) _ _ (λ _. tt) tt)))))))))))))

  -- ---- an Enter
  module _ (s : SyncState) (p : ℕ) where
    verdict_goes : (z : Process) (e : CallEffect) (v : Verdict) → Goes e → GoesTo terminal (after_effect s p z e v).entry.output
    verdict_goes z e Waits goes = tt
    verdict_goes z e (Replies r) goes = goes.goes
    verdict_goes z e (Ends status) goes = tt

    stop_goes : (z : Process) (stop : Option Stop) → Fits z.descriptors (request_of z.state) → GoesTo terminal (after_effect_if s p z (effect_at (shared s) p z stop)).entry.output
    stop_goes z (Some Call) fits =
        let e = row (shared s) p z.descriptors z.children (request_of z.state) in
        verdict_goes z e e.verdict (row_goes (shared s) p z.descriptors z.children (request_of z.state) fits)
    stop_goes z (Some (Trap cause)) fits = tt
    stop_goes z (Some Limit) fits = tt
    stop_goes z None fits = tt

    enter_goes : (z : Process) (b : Bool) → Fits z.descriptors (request_of z.state)
        → GoesTo terminal (if b then impossible p s else after_effect_if s p z (effect_at (shared s) p z (stopped_at z.state))).entry.output
    enter_goes z true fits = tt
    enter_goes z false fits = stop_goes z (stopped_at z.state) fits

    pub output_goes : (z : Process) → process_at s.processes p ≡ Some z
        → terminal ≡ written_by (slice_index z.state.architectural.registers 17) (descriptor_at z.descriptors (slice_index z.state.architectural.registers 10))
        → GoesTo terminal (after_enter s p (process_at s.processes p)).entry.output
    output_goes z at is =
        subst (λ (o : Option Process). GoesTo terminal (after_enter s p o).entry.output) (sym at)
        (enter_goes z (is_some z.status) (request_fits z.descriptors _ _ _ _ z.state.architectural.memory is))

-- a process that is not there writes nothing
pub none_goes : (terminal : Option ℕ) (s : SyncState) (p : ℕ) → process_at s.processes p ≡ None → GoesTo terminal (after_enter s p (process_at s.processes p)).entry.output
none_goes terminal s p at = subst (λ (o : Option Process). GoesTo terminal (after_enter s p o).entry.output) (sym at) tt
