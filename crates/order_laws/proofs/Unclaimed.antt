-- A call of a process that leaves alone what is claimed reads, writes and hands on nothing of it.
use Rattle.std.proofs.Common.{◌≡◌, ℕ, zero, suc, ◌+◌, ◌==◌, ◌||◌, ◌&&◌, not, nat_lt, nat_le, Bool, true, false, List, [], ◌∷◌, length, map, take, drop, slice_get, Option, Some, None, IfSome, refl, subst}
use Rattle.std.specs.Prelude.{if◌then◌else◌, ◌%◌}
use Rattle.std.specs.List.{AllByRecursion, list_all}
use Rattle.std.specs.Str.{bytes_eq}
use Rattle.disk_model.specs.declared.change.NamedFile.{NamedFile}
use Rattle.disk_model.specs.Files.{is_name_byte}
use Rattle.disk_model.specs.Numbers.{Numbered, file_of, lives}
use Rattle.disk_model.specs.Limits.{most_files, longest_file}
use Rattle.machine_model.specs.declared.stop.Stop.{Stop}
use Rattle.machine_model.specs.declared.stop.Stop.TheVariants.{Limit, Call, Trap}
use Rattle.image_model.specs.declared.fault.ElfFault.{ElfFault}
use Rattle.image_model.specs.Checks.{first_fault}
use Rattle.kernel_model.specs.Requests.{most_bytes, request_of}
use Rattle.kernel_model.specs.Rows.{CallEffect, only, looking_at, Directory, directory, number_named, is_bad_length, row_seek, row_unlink, unlink_named, unlink_file, row_rename, rename_read, rename_file, loser_carriers, row_exec, exec_named, exec_file, exec_found, exec_image, EndedChild, carrier_of, ends_of, row, row_end, row_write, may_write, write_read, write_to, write_pipe, row_read, may_read, read_from, read_file, read_tape, read_pipe, row_close, row_open, open_named, open_free, open_file, row_pipe, pipe_free, row_fork, row_wait, wait_ended, first_ended, free_descriptor, free_after, descriptor_at, most_pipes, most_processes, pipe_size}
use Rattle.kernel_model.specs.State.{Process, Shared, PipeState, TapeState, unread}
use Rattle.kernel_model.specs.Steps.{effect_at}
use Rattle.kernel_model.specs.declared.carrier.Carrier.{Carrier}
use Rattle.kernel_model.specs.declared.carrier.Carrier.TheVariants as carrier
use Rattle.kernel_model.specs.declared.descriptor.Descriptor.{Descriptor}
use Rattle.kernel_model.specs.declared.descriptor.Descriptor.TheVariants as descriptor
use Rattle.kernel_model.specs.declared.descriptor.PipeEnd.{PipeEnd}
use Rattle.kernel_model.specs.declared.descriptor.PipeEnd.TheVariants as pipe_end
use Rattle.kernel_model.specs.declared.effect.Output.{Output}
use Rattle.kernel_model.specs.declared.effect.Slot.{Slot}
use Rattle.kernel_model.specs.declared.request.Request.{Request}
use Rattle.kernel_model.specs.declared.request.Request.TheVariants as request
use Rattle.kernel_model.specs.declared.request.Verdict.{Verdict}
use Rattle.order_laws.specs.Privacy.{Claim, is_claimed, is_claimed_by_end, stands_for_claimed}

-- an output goes to a terminal that is claimed
abbrev pub is_claimed_output : Claim → Option Output → Bool
is_claimed_output c None = false
is_claimed_output c (Some o) = c.terminals o.terminal

module _ (c : Claim) where
  abbrev pub AreFree : List Carrier → Type 0
  AreFree cs = AllByRecursion (λ (x : Carrier). is_claimed c x ≡ false) cs

  -- an effect reads nothing that is claimed, writes to no such terminal, and gives no descriptor of it
  pub record IsClear (e : CallEffect) : Type 0 where
    pub reads : AreFree e.reads
    pub output : is_claimed_output c e.output ≡ false
    pub slots : AllByRecursion (λ (slot : Slot). stands_for_claimed c slot.holds ≡ false) e.slots

  none : (v : Verdict) → IsClear (only v)
  none v = record { reads = tt; output = refl; slots = tt }

  either : (b : Bool) (x y : CallEffect) → IsClear x → IsClear y → IsClear (if b then x else y)
  either true x y f g = f
  either false x y f g = g

  look : (d : Option Descriptor) (e : CallEffect) → IsClear e → IsClear (looking_at d e)
  look None e h = h
  look (Some (descriptor.Tape t)) e h = h
  look (Some (descriptor.Terminal t)) e h = h
  look (Some (descriptor.Pipe end)) e h = h
  look (Some (descriptor.File file offset writes)) e h = record { reads = (refl, h.reads); output = h.output; slots = h.slots }

  -- ---- write
  write_pipe_clear : (k : ℕ) (bytes : List ℕ) (o : Option PipeState) → c.pipes k ≡ false → IsClear (write_pipe k bytes o)
  write_pipe_clear k bytes None h = record { reads = (h, tt); output = refl; slots = tt }
  write_pipe_clear k bytes (Some p) h = either (p.readers == 0) _ _ (record { reads = (h, tt); output = refl; slots = tt })
      (either (nat_le pipe_size (length (unread p))) _ _ (record { reads = (h, tt); output = refl; slots = tt }) (record { reads = (h, tt); output = refl; slots = tt }))

  write_to_clear : (s : Shared) (d : Option Descriptor) (fd : ℕ) (bytes : List ℕ) → stands_for_claimed c d ≡ false → IsClear (write_to s d fd bytes)
  write_to_clear s None fd bytes h = none _
  write_to_clear s (Some (descriptor.Tape k)) fd bytes h = none _
  write_to_clear s (Some (descriptor.Terminal k)) fd bytes h = record { reads = tt; output = h; slots = tt }
  write_to_clear s (Some (descriptor.File file offset true)) fd bytes h = either (nat_lt longest_file (offset + length bytes)) _ _ (none _) (record { reads = tt; output = refl; slots = (refl, tt) })
  write_to_clear s (Some (descriptor.File file offset false)) fd bytes h = none _
  write_to_clear s (Some (descriptor.Pipe (pipe_end.Read k))) fd bytes h = none _
  write_to_clear s (Some (descriptor.Pipe (pipe_end.Write k))) fd bytes h = write_pipe_clear k bytes (slice_get s.pipes k) h

  row_write_clear : (s : Shared) (d : Option Descriptor) (fd n : ℕ) (o : Option (List ℕ)) → stands_for_claimed c d ≡ false → IsClear (row_write s d fd n o)
  row_write_clear s d fd n o h = look d _ (either (not (may_write s.files d)) _ _ (none _) (either (nat_lt most_bytes n) _ _ (none _) (either (n == 0) _ _ (none _) (by o))))
    where
      by : (o : Option (List ℕ)) → IsClear (write_read s d fd o)
      by None = none _
      by (Some bytes) = write_to_clear s d fd bytes h

  -- ---- read
  read_from_clear : (s : Shared) (d : Option Descriptor) (fd at n : ℕ) → stands_for_claimed c d ≡ false → IsClear (read_from s d fd at n)
  read_from_clear s None fd at n h = none _
  read_from_clear s (Some (descriptor.Tape k)) fd at n h = by (slice_get s.tapes k)
    where
      by : (o : Option TapeState) → IsClear (read_tape k at n o)
      by None = record { reads = (h, tt); output = refl; slots = tt }
      by (Some tape) = record { reads = (h, tt); output = refl; slots = tt }
  read_from_clear s (Some (descriptor.Terminal k)) fd at n h = none _
  read_from_clear s (Some (descriptor.File file offset true)) fd at n h = none _
  read_from_clear s (Some (descriptor.File file offset false)) fd at n h = by (file_of s.files file)
    where
      by : (o : Option NamedFile) → IsClear (read_file fd file offset at n o)
      by None = none _
      by (Some f) = record { reads = tt; output = refl; slots = (refl, tt) }
  read_from_clear s (Some (descriptor.Pipe (pipe_end.Read k))) fd at n h = by (slice_get s.pipes k)
    where
      clear : (v : Verdict) → IsClear (record (only v) { reads = carrier.Pipe k ∷ []; writes = carrier.Pipe k ∷ [] })
      clear v = record { reads = (h, tt); output = refl; slots = tt }

      by : (o : Option PipeState) → IsClear (read_pipe k at n o)
      by None = record { reads = (h, tt); output = refl; slots = tt }
      by (Some p) = either (nat_lt 0 (length (unread p))) _ _ (record { reads = (h, tt); output = refl; slots = tt })
          (either (p.writers == 0) _ _ (record { reads = (h, tt); output = refl; slots = tt }) (record { reads = (h, tt); output = refl; slots = tt }))
  read_from_clear s (Some (descriptor.Pipe (pipe_end.Write k))) fd at n h = none _

  row_read_clear : (s : Shared) (d : Option Descriptor) (fd at n : ℕ) (fits : Bool) → stands_for_claimed c d ≡ false → IsClear (row_read s d fd at n fits)
  row_read_clear s d fd at n fits h =
      look d _ (either (not (may_read s.files d)) _ _ (none _) (either (nat_lt most_bytes n) _ _ (none _) (either (n == 0) _ _ (none _)
      (either (not fits) _ _ (none _) (read_from_clear s d fd at n h)))))

  -- ---- seek, and names
  row_seek_clear : (files : Numbered) (d : Option Descriptor) (fd offset : ℕ) → IsClear (row_seek files d fd offset)
  row_seek_clear files None fd offset = none _
  row_seek_clear files (Some (descriptor.Tape k)) fd offset = none _
  row_seek_clear files (Some (descriptor.Terminal k)) fd offset = none _
  row_seek_clear files (Some (descriptor.Pipe end)) fd offset = none _
  row_seek_clear files (Some (descriptor.File file old writes)) fd offset = look (Some (descriptor.File file old writes)) _
      (either (not (lives files file)) _ _ (none _) (either (nat_lt longest_file offset) _ _ (none _) (record { reads = tt; output = refl; slots = (refl, tt) })))

  open_file_clear : (dir : Directory) (fd mode : ℕ) (name : List ℕ) (o : Option ℕ) → IsClear (open_file dir fd mode name o)
  open_file_clear dir fd mode name (Some file) = either (mode == 2) _ _ (record { reads = (refl, (refl, tt)); output = refl; slots = (refl, tt) }) (record { reads = (refl, tt); output = refl; slots = (refl, tt) })
  open_file_clear dir fd mode name None =
      either (mode == 2) _ _ (either (nat_le most_files (length dir.names)) _ _ (record { reads = (refl, tt); output = refl; slots = tt }) (record { reads = (refl, (refl, tt)); output = refl; slots = (refl, tt) }))
      (record { reads = (refl, tt); output = refl; slots = tt })

  row_open_clear : (dir : Directory) (ds : List (Option Descriptor)) (n mode : ℕ) (o : Option (List ℕ)) → IsClear (row_open dir ds n mode o)
  row_open_clear dir ds n mode o = either (nat_lt 2 mode) _ _ (none _) (either (is_bad_length n) _ _ (none _) (named o))
    where
      free : (name : List ℕ) (o : Option ℕ) → IsClear (open_free dir o mode name)
      free name None = none _
      free name (Some fd) = open_file_clear dir fd mode name (number_named dir name)

      named : (o : Option (List ℕ)) → IsClear (open_named dir ds mode o)
      named None = none _
      named (Some name) = either (not (list_all is_name_byte name)) _ _ (none _) (free name (free_descriptor ds))

  row_unlink_clear : (dir : Directory) (n : ℕ) (o : Option (List ℕ)) → IsClear (row_unlink dir n o)
  row_unlink_clear dir n o = either (is_bad_length n) _ _ (none _) (named o)
    where
      unlinked : (p : Option ℕ) → IsClear (unlink_file p)
      unlinked None = record { reads = (refl, tt); output = refl; slots = tt }
      unlinked (Some file) = record { reads = (refl, (refl, tt)); output = refl; slots = tt }

      named : (o : Option (List ℕ)) → IsClear (unlink_named dir o)
      named None = none _
      named (Some name) = either (not (list_all is_name_byte name)) _ _ (none _) (unlinked (number_named dir name))

  loser_free : (o : Option ℕ) → AreFree (loser_carriers o)
  loser_free None = tt
  loser_free (Some file) = (refl, tt)

  row_rename_clear : (dir : Directory) (n m : ℕ) (o : Option (List ℕ)) → IsClear (row_rename dir n m o)
  row_rename_clear dir n m o = either (is_bad_length n || is_bad_length m) _ _ (none _) (read o)
    where
      renamed : (old new : List ℕ) (p : Option ℕ) → IsClear (rename_file dir old new p)
      renamed old new None = record { reads = (refl, tt); output = refl; slots = tt }
      renamed old new (Some file) = either (bytes_eq old new) _ _ (record { reads = (refl, tt); output = refl; slots = tt })
          (record { reads = (refl, (refl, loser_free (number_named dir new))); output = refl; slots = tt })

      read : (o : Option (List ℕ)) → IsClear (rename_read dir n o)
      read None = none _
      read (Some names) = either (not (list_all is_name_byte (take n names) && list_all is_name_byte (drop n names))) _ _ (none _) (renamed (take n names) (drop n names) (number_named dir (take n names)))

  row_exec_clear : (files : Numbered) (n : ℕ) (o : Option (List ℕ)) → IsClear (row_exec files n o)
  row_exec_clear files n o = either (is_bad_length n) _ _ (none _) (named o)
    where
      image : (file : ℕ) (bytes : List ℕ) (p : Option ElfFault) → IsClear (exec_image file bytes p)
      image file bytes None = record { reads = (refl, (refl, tt)); output = refl; slots = tt }
      image file bytes (Some fault) = record { reads = (refl, (refl, tt)); output = refl; slots = tt }

      found : (file : ℕ) (p : Option NamedFile) → IsClear (exec_found file p)
      found file None = record { reads = (refl, tt); output = refl; slots = tt }
      found file (Some f) = image file f.bytes (first_fault f.bytes)

      of_number : (p : Option ℕ) → IsClear (exec_file files p)
      of_number None = record { reads = (refl, tt); output = refl; slots = tt }
      of_number (Some file) = found file (file_of files file)

      named : (p : Option (List ℕ)) → IsClear (exec_named files p)
      named None = none _
      named (Some name) = either (not (list_all is_name_byte name)) _ _ (none _) (of_number (number_named (directory files) name))

  -- ---- ends of pipes
  abbrev pub NoneClaimed : List (Option Descriptor) → Type 0
  NoneClaimed ds = AllByRecursion (λ (d : Option Descriptor). stands_for_claimed c d ≡ false) ds

  end_free : (end : PipeEnd) → is_claimed_by_end c end ≡ false → is_claimed c (carrier_of end) ≡ false
  end_free (pipe_end.Read k) h = h
  end_free (pipe_end.Write k) h = h

  ends_free : (ds : List (Option Descriptor)) → NoneClaimed ds → AreFree (map carrier_of (ends_of ds))
  ends_free [] h = tt
  ends_free (None ∷ ds) h = ends_free ds h.1
  ends_free (Some (descriptor.Tape t) ∷ ds) h = ends_free ds h.1
  ends_free (Some (descriptor.Terminal t) ∷ ds) h = ends_free ds h.1
  ends_free (Some (descriptor.File file offset writes) ∷ ds) h = ends_free ds h.1
  ends_free (Some (descriptor.Pipe end) ∷ ds) h = (end_free end h.0, ends_free ds h.1)

  at_descriptor : (ds : List (Option Descriptor)) (fd : ℕ) → NoneClaimed ds → stands_for_claimed c (descriptor_at ds fd) ≡ false
  at_descriptor [] fd h = refl
  at_descriptor (d ∷ ds) zero h = h.0
  at_descriptor (d ∷ ds) (suc fd) h = at_descriptor ds fd h.1

  row_end_clear : (ds : List (Option Descriptor)) (status : ℕ) → NoneClaimed ds → IsClear (row_end ds status)
  row_end_clear ds status h = record { reads = ends_free ds h; output = refl; slots = tt }

  row_close_clear : (d : Option Descriptor) (fd : ℕ) → stands_for_claimed c d ≡ false → IsClear (row_close d fd)
  row_close_clear None fd h = none _
  row_close_clear (Some d) fd h = record { reads = ends_free (Some d ∷ []) (h, tt); output = refl; slots = (refl, tt) }

  row_pipe_clear : (count : ℕ) (ds : List (Option Descriptor)) (at : ℕ) (fits : Bool) → c.pipes count ≡ false → IsClear (row_pipe count ds at fits)
  row_pipe_clear count ds at fits h = either (not fits) _ _ (none _) (by (free_descriptor ds) (free_after ds (free_descriptor ds)))
    where
      by : (r w : Option ℕ) → IsClear (pipe_free count at r w)
      by (Some r) (Some w) = either (nat_le most_pipes count) _ _ (record { reads = (refl, tt); output = refl; slots = tt }) (record { reads = (refl, (h, tt)); output = refl; slots = (h, (h, tt)) })
      by (Some r) None = none _
      by None w = none _

  row_fork_clear : (count : ℕ) (ds : List (Option Descriptor)) → (count + 1 == c.owner) ≡ false → NoneClaimed ds → IsClear (row_fork count ds)
  row_fork_clear count ds h hs =
      either (nat_le most_processes count) _ _ (record { reads = (refl, ends_free ds hs); output = refl; slots = tt }) (record { reads = (refl, (h, ends_free ds hs)); output = refl; slots = tt })

  children_free : (children : List ℕ) → AllByRecursion (λ (q : ℕ). (q == c.owner) ≡ false) children → AreFree (map carrier.Proc children)
  children_free [] h = tt
  children_free (q ∷ children) h = (h.0, children_free children h.1)

  row_wait_clear : (statuses : List (Option ℕ)) (children : List ℕ) (at : ℕ) (fits : Bool) → AllByRecursion (λ (q : ℕ). (q == c.owner) ≡ false) children → IsClear (row_wait statuses children at fits)
  row_wait_clear statuses children at fits h = either (not fits) _ _ (none _) (either (length children == 0) _ _ (none _) (by (first_ended statuses children)))
    where
      by : (o : Option EndedChild) → IsClear (wait_ended at children o)
      by None = record { reads = children_free children h; output = refl; slots = tt }
      by (Some e) = record { reads = children_free children h; output = refl; slots = tt }

  -- ---- the table
  row_clear : (s : Shared) (p : ℕ) (ds : List (Option Descriptor)) (children : List ℕ) (r : Request) → c.pipes (length s.pipes) ≡ false → (length s.statuses + 1 == c.owner) ≡ false
      → NoneClaimed ds → AllByRecursion (λ (q : ℕ). (q == c.owner) ≡ false) children → IsClear (row s p ds children r)
  row_clear s p ds children (request.Exit status) pipes next hs hc = row_end_clear ds (status % 256) hs
  row_clear s p ds children (request.Write fd n bytes) pipes next hs hc = row_write_clear s (descriptor_at ds fd) fd n bytes (at_descriptor ds fd hs)
  row_clear s p ds children (request.Read fd at n fits) pipes next hs hc = row_read_clear s (descriptor_at ds fd) fd at n fits (at_descriptor ds fd hs)
  row_clear s p ds children (request.Open n mode name) pipes next hs hc = row_open_clear (directory s.files) ds n mode name
  row_clear s p ds children (request.Close fd) pipes next hs hc = row_close_clear (descriptor_at ds fd) fd (at_descriptor ds fd hs)
  row_clear s p ds children (request.Pipe at fits) pipes next hs hc = row_pipe_clear (length s.pipes) ds at fits pipes
  row_clear s p ds children request.Fork pipes next hs hc = row_fork_clear (length s.statuses) ds next hs
  row_clear s p ds children (request.Wait at fits) pipes next hs hc = row_wait_clear s.statuses children at fits hc
  row_clear s p ds children request.GetPid pipes next hs hc = none _
  row_clear s p ds children (request.Seek fd offset) pipes next hs hc = row_seek_clear s.files (descriptor_at ds fd) fd offset
  row_clear s p ds children request.Sync pipes next hs hc = none _
  row_clear s p ds children (request.Unlink n name) pipes next hs hc = row_unlink_clear (directory s.files) n name
  row_clear s p ds children (request.Rename n m names) pipes next hs hc = row_rename_clear (directory s.files) n m names
  row_clear s p ds children (request.Exec n name) pipes next hs hc = row_exec_clear s.files n name
  row_clear s p ds children request.Unknown pipes next hs hc = none _

  pub effect_clear : (s : Shared) (pid : ℕ) (z : Process) (stop : Option Stop) (e : CallEffect) → c.pipes (length s.pipes) ≡ false → (length s.statuses + 1 == c.owner) ≡ false
      → NoneClaimed z.descriptors → AllByRecursion (λ (q : ℕ). (q == c.owner) ≡ false) z.children → effect_at s pid z stop ≡ Some e → IsClear e
  effect_clear s pid z stop e pipes next hs hc is = subst (λ (o : Option CallEffect). IfSome o IsClear) is (by stop)
    where
      by : (stop : Option Stop) → IfSome (effect_at s pid z stop) IsClear
      by (Some Call) = row_clear s pid z.descriptors z.children (request_of z.state) pipes next hs hc
      by (Some (Trap cause)) = row_end_clear z.descriptors _ hs
      by (Some Limit) = tt
      by None = tt
