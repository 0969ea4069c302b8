-- Each row of the table of calls gives the same in states that agree on what it reads.
use Rattle.std.proofs.Common.{◌≡◌, ℕ, zero, suc, ◌==◌, ◌||◌, ◌&&◌, not, nat_lt, nat_le, Bool, true, false, List, [], ◌∷◌, length, take, drop, map, slice_get, Option, Some, None, is_some, refl, sym, ap, ◌∙◌}
use Rattle.std.specs.Prelude.{if◌then◌else◌, unwrap_or, option_map}
use Rattle.std.specs.List.{list_all, position}
use Rattle.std.specs.Str.{bytes_eq}
use Rattle.std.proofs.lemmas.Bool.{false≢true}
use Rattle.std.proofs.lemmas.List.{length-map}
use Rattle.disk_model.specs.declared.change.NamedFile.{NamedFile}
use Rattle.disk_model.specs.Files.{is_name_byte}
use Rattle.disk_model.specs.Numbers.{Numbered, at_place, place_of, file_of, lives}
use Rattle.disk_model.specs.Limits.{most_files}
use Rattle.image_model.specs.declared.fault.ElfFault.{ElfFault}
use Rattle.image_model.specs.Checks.{first_fault}
use Rattle.kernel_model.specs.Requests.{most_bytes}
use Rattle.kernel_model.specs.Rows.{CallEffect, only, number, failure, bad_argument, bad_address, looking_at, Directory, directory, number_named, is_bad_length, seek_file, row_seek, row_unlink, unlink_named, unlink_file, row_rename, rename_read, rename_named, rename_file, names_of, row_exec, exec_named, exec_file, exec_found, exec_image, EndedChild, ended_or, status_in, row, row_write, write_read, write_to, write_pipe, row_read, read_from, read_file, read_tape, read_pipe, row_open, open_named, open_free, open_file, row_pipe, pipe_free, pipe_made, row_fork, row_wait, wait_ended, first_ended, free_descriptor, free_after, descriptor_at, most_pipes, most_processes, pipe_size}
use Rattle.kernel_model.specs.State.{SyncState, Process, shared, PipeState, TapeState, unread, process_at}
use Rattle.kernel_model.specs.declared.carrier.Carrier.TheVariants as carrier
use Rattle.kernel_model.specs.declared.descriptor.Descriptor.{Descriptor}
use Rattle.kernel_model.specs.declared.descriptor.Descriptor.TheVariants as descriptor
use Rattle.kernel_model.specs.declared.descriptor.PipeEnd.TheVariants as pipe_end
use Rattle.kernel_model.specs.declared.request.Request.{Request}
use Rattle.kernel_model.specs.declared.request.Request.TheVariants as request
use Rattle.kernel_laws.specs.Agreement.{Agree, AgreeOn}

-- the status with which a process has ended, if it is there and has
abbrev status_of : Option Process → Option ℕ
status_of None = None
status_of (Some p) = p.status

get_status : (ps : List Process) (k : ℕ) → unwrap_or (slice_get (map (λ (p : Process). p.status) ps) k) None ≡ status_of (slice_get ps k)
get_status [] k = refl
get_status (p ∷ ps) zero = refl
get_status (p ∷ ps) (suc k) = get_status ps k

status_at : (ps : List Process) (p : ℕ) → status_in (map (λ (p : Process). p.status) ps) p ≡ status_of (process_at ps p)
status_at ps zero = refl
status_at ps (suc k) = get_status ps k

some_map : {A B : Type 0} (f : A → B) (o : Option A) → is_some (option_map f o) ≡ is_some o
some_map f None = refl
some_map f (Some x) = refl

-- whether a file of a number lives, by the names and numbers of those that do
get_some : {A B : Type 0} (f : A → B) (xs : List A) (k : ℕ) → is_some (slice_get xs k) ≡ is_some (slice_get (map f xs) k)
get_some f [] k = refl
get_some f (x ∷ xs) zero = refl
get_some f (x ∷ xs) (suc k) = get_some f xs k

place_some : (files : List NamedFile) (o : Option ℕ) → is_some (at_place files o) ≡ is_some (at_place (names_of files) o)
place_some files None = refl
place_some files (Some k) = get_some (λ (f : NamedFile). f.name) files k

by_names : (files : Numbered) (file : ℕ) → is_some (file_of files file) ≡ is_some (at_place (directory files).names (position (λ n. n == file) (directory files).numbers))
by_names files file = place_some files.living (place_of files file)

-- of two states
module _ (s t : SyncState) where
  -- where they agree on what the one effect reads, the other is the same
  abbrev Same : CallEffect → CallEffect → Type 0
  Same x y = Agree s t x.reads → y ≡ x

  if_same : (b : Bool) (x y z : CallEffect) → Same y z → Same (if b then x else y) (if b then x else z)
  if_same true x y z h a = refl
  if_same false x y z h a = h a

  look_same : (d : Option Descriptor) (b : Bool) (x y z : CallEffect) → Same (looking_at d y) (looking_at d z)
      → Same (looking_at d (if b then x else y)) (looking_at d (if b then x else z))
  look_same d true x y z h a = refl
  look_same d false x y z h a = h a

  -- ---- write
  pipe_read : (k : ℕ) (bytes : List ℕ) (o : Option PipeState) → Agree s t (write_pipe k bytes o).reads → AgreeOn s t (carrier.Pipe k)
  pipe_read k bytes None a = a.0
  pipe_read k bytes (Some p) a = by (p.readers == 0) (nat_le pipe_size (length (unread p))) _ _ _ (λ h. h.0) (λ h. h.0) (λ h. h.0) a
    where
      by : (b c : Bool) (x y z : CallEffect) → (Agree s t x.reads → AgreeOn s t (carrier.Pipe k)) → (Agree s t y.reads → AgreeOn s t (carrier.Pipe k)) → (Agree s t z.reads → AgreeOn s t (carrier.Pipe k))
          → Agree s t (if b then x else if c then y else z).reads → AgreeOn s t (carrier.Pipe k)
      by true c x y z f g h a = f a
      by false true x y z f g h a = g a
      by false false x y z f g h a = h a

  write_to_same : (d : Option Descriptor) (fd : ℕ) (bytes : List ℕ) → Same (looking_at d (write_to (shared s) d fd bytes)) (looking_at d (write_to (shared t) d fd bytes))
  write_to_same None fd bytes a = refl
  write_to_same (Some (descriptor.Tape k)) fd bytes a = refl
  write_to_same (Some (descriptor.Terminal k)) fd bytes a = refl
  write_to_same (Some (descriptor.File file offset true)) fd bytes a = refl
  write_to_same (Some (descriptor.File file offset false)) fd bytes a = refl
  write_to_same (Some (descriptor.Pipe (pipe_end.Read k))) fd bytes a = refl
  write_to_same (Some (descriptor.Pipe (pipe_end.Write k))) fd bytes a =
      ap (λ (o : Option PipeState). write_pipe k bytes o) (sym (pipe_read k bytes (slice_get s.pipes k) a))

  write_read_same : (d : Option Descriptor) (fd : ℕ) (o : Option (List ℕ)) → Same (looking_at d (write_read (shared s) d fd o)) (looking_at d (write_read (shared t) d fd o))
  write_read_same d fd None a = refl
  write_read_same d fd (Some bytes) a = write_to_same d fd bytes a

  -- what comes after the first test
  written_same : (d : Option Descriptor) (fd n : ℕ) (o : Option (List ℕ))
      → Same (looking_at d (if nat_lt most_bytes n then failure bad_argument else if n == 0 then only (number 0) else write_read (shared s) d fd o))
      (looking_at d (if nat_lt most_bytes n then failure bad_argument else if n == 0 then only (number 0) else write_read (shared t) d fd o))
  written_same d fd n o = look_same d (nat_lt most_bytes n) _ _ _ (look_same d (n == 0) _ _ _ (write_read_same d fd o))

  -- a file of which they agree lives in both or in none
  alive_same : (file : ℕ) → AgreeOn s t (carrier.File file) → lives t.files file ≡ lives s.files file
  alive_same file a = sym (some_map (λ (f : NamedFile). f.bytes) (file_of t.files file)) ∙ ap (λ (o : Option (List ℕ)). is_some o) (sym a) ∙ some_map (λ (f : NamedFile). f.bytes) (file_of s.files file)

  -- where the first test is the same
  tested_same : (d : Option Descriptor) (b c : Bool) (x y z : CallEffect) → c ≡ b → Same (looking_at d y) (looking_at d z)
      → Same (looking_at d (if not b then x else y)) (looking_at d (if not c then x else z))
  tested_same d b c x y z e h a = ap (λ (v : Bool). looking_at d (if not v then x else z)) e ∙ look_same d (not b) x y z h a

  row_write_same : (d : Option Descriptor) (fd n : ℕ) (o : Option (List ℕ)) → Same (row_write (shared s) d fd n o) (row_write (shared t) d fd n o)
  row_write_same None fd n o a = refl
  row_write_same (Some (descriptor.Tape k)) fd n o a = refl
  row_write_same (Some (descriptor.Terminal k)) fd n o a = written_same (Some (descriptor.Terminal k)) fd n o a
  row_write_same (Some (descriptor.File file offset writes)) fd n o a =
      tested_same (Some (descriptor.File file offset writes)) (writes && lives s.files file) (writes && lives t.files file) _ _ _
      (ap (λ (b : Bool). writes && b) (alive_same file a.0)) (written_same (Some (descriptor.File file offset writes)) fd n o) a
  row_write_same (Some (descriptor.Pipe (pipe_end.Read k))) fd n o a = refl
  row_write_same (Some (descriptor.Pipe (pipe_end.Write k))) fd n o a = written_same (Some (descriptor.Pipe (pipe_end.Write k))) fd n o a

  -- ---- read
  held_read : (k at n : ℕ) (o : Option PipeState) → Agree s t (read_pipe k at n o).reads → AgreeOn s t (carrier.Pipe k)
  held_read k at n None a = a.0
  held_read k at n (Some p) a = by (nat_lt 0 (length (unread p))) (p.writers == 0) _ _ _ (λ h. h.0) (λ h. h.0) (λ h. h.0) a
    where
      by : (b c : Bool) (x y z : CallEffect) → (Agree s t x.reads → AgreeOn s t (carrier.Pipe k)) → (Agree s t y.reads → AgreeOn s t (carrier.Pipe k)) → (Agree s t z.reads → AgreeOn s t (carrier.Pipe k))
          → Agree s t (if b then x else if c then y else z).reads → AgreeOn s t (carrier.Pipe k)
      by true c x y z f g h a = f a
      by false true x y z f g h a = g a
      by false false x y z f g h a = h a

  tape_read : (k at n : ℕ) (o : Option TapeState) → Agree s t (read_tape k at n o).reads → AgreeOn s t (carrier.Tape k)
  tape_read k at n None a = a.0
  tape_read k at n (Some tape) a = a.0

  read_file_same : (fd file offset at n : ℕ) (o p : Option NamedFile) → option_map (λ (f : NamedFile). f.bytes) o ≡ option_map (λ (f : NamedFile). f.bytes) p
      → read_file fd file offset at n p ≡ read_file fd file offset at n o
  read_file_same fd file offset at n None None e = refl
  read_file_same fd file offset at n None (Some g) e = absurd (let no : ⊥ = cc in no)
  read_file_same fd file offset at n (Some f) None e = absurd (let no : ⊥ = cc in no)
  read_file_same fd file offset at n (Some f) (Some g) e =
      let same : g.bytes ≡ f.bytes = cc in
      ap (λ (bytes : List ℕ). read_file fd file offset at n (Some (record { name = []; bytes = bytes }))) same

  read_from_same : (d : Option Descriptor) (fd at n : ℕ) → Same (looking_at d (read_from (shared s) d fd at n)) (looking_at d (read_from (shared t) d fd at n))
  read_from_same None fd at n a = refl
  read_from_same (Some (descriptor.Tape k)) fd at n a =
      ap (λ (o : Option TapeState). read_tape k at n o) (sym (tape_read k at n (slice_get s.tapes k) a))
  read_from_same (Some (descriptor.Terminal k)) fd at n a = refl
  read_from_same (Some (descriptor.File file offset true)) fd at n a = refl
  read_from_same (Some (descriptor.File file offset false)) fd at n a =
      ap (looking_at (Some (descriptor.File file offset false))) (read_file_same fd file offset at n (file_of s.files file) (file_of t.files file) a.0)
  read_from_same (Some (descriptor.Pipe (pipe_end.Read k))) fd at n a =
      ap (λ (o : Option PipeState). read_pipe k at n o) (sym (held_read k at n (slice_get s.pipes k) a))
  read_from_same (Some (descriptor.Pipe (pipe_end.Write k))) fd at n a = refl

  placed_same : (d : Option Descriptor) (fd at n : ℕ) (fits : Bool)
      → Same (looking_at d (if nat_lt most_bytes n then failure bad_argument else if n == 0 then only (number 0) else if not fits then failure bad_address else read_from (shared s) d fd at n))
      (looking_at d (if nat_lt most_bytes n then failure bad_argument else if n == 0 then only (number 0) else if not fits then failure bad_address else read_from (shared t) d fd at n))
  placed_same d fd at n fits =
      look_same d (nat_lt most_bytes n) _ _ _ (look_same d (n == 0) _ _ _ (look_same d (not fits) _ _ _ (read_from_same d fd at n)))

  row_read_same : (d : Option Descriptor) (fd at n : ℕ) (fits : Bool) → Same (row_read (shared s) d fd at n fits) (row_read (shared t) d fd at n fits)
  row_read_same None fd at n fits a = refl
  row_read_same (Some (descriptor.Tape k)) fd at n fits a = placed_same (Some (descriptor.Tape k)) fd at n fits a
  row_read_same (Some (descriptor.Terminal k)) fd at n fits a = refl
  row_read_same (Some (descriptor.File file offset writes)) fd at n fits a =
      tested_same (Some (descriptor.File file offset writes)) (not writes && lives s.files file) (not writes && lives t.files file) _ _ _
      (ap (λ (b : Bool). not writes && b) (alive_same file a.0)) (placed_same (Some (descriptor.File file offset writes)) fd at n fits) a
  row_read_same (Some (descriptor.Pipe (pipe_end.Read k))) fd at n fits a = placed_same (Some (descriptor.Pipe (pipe_end.Read k))) fd at n fits a
  row_read_same (Some (descriptor.Pipe (pipe_end.Write k))) fd at n fits a = refl

  -- ---- seek
  row_seek_same : (d : Option Descriptor) (fd offset : ℕ) → Same (row_seek s.files d fd offset) (row_seek t.files d fd offset)
  row_seek_same None fd offset a = refl
  row_seek_same (Some (descriptor.Tape k)) fd offset a = refl
  row_seek_same (Some (descriptor.Terminal k)) fd offset a = refl
  row_seek_same (Some (descriptor.File file old writes)) fd offset a =
      ap (λ (b : Bool). looking_at (Some (descriptor.File file old writes)) (seek_file fd file writes offset b)) (alive_same file a.0)
  row_seek_same (Some (descriptor.Pipe end)) fd offset a = refl

  -- ---- open, unlink, rename
  abbrev KnowsNames : CallEffect → Type 0
  KnowsNames x = Agree s t x.reads → AgreeOn s t carrier.Names

  either_knows : (b : Bool) (x y : CallEffect) → KnowsNames x → KnowsNames y → KnowsNames (if b then x else y)
  either_knows true x y f g = f
  either_knows false x y f g = g

  open_knows : (dir : Directory) (fd mode : ℕ) (name : List ℕ) (o : Option ℕ) → KnowsNames (open_file dir fd mode name o)
  open_knows dir fd mode name None =
      either_knows (mode == 2) _ _ (either_knows (nat_le most_files (length dir.names)) _ _ (λ a. a.0) (λ a. a.0)) (λ a. a.0)
  open_knows dir fd mode name (Some file) = either_knows (mode == 2) _ _ (λ a. a.0) (λ a. a.0)

  open_free_same : (o : Option ℕ) (mode : ℕ) (name : List ℕ) → Same (open_free (directory s.files) o mode name) (open_free (directory t.files) o mode name)
  open_free_same None mode name a = refl
  open_free_same (Some fd) mode name a =
      ap (λ (dir : Directory). open_file dir fd mode name (number_named dir name))
      (sym (open_knows (directory s.files) fd mode name (number_named (directory s.files) name) a))

  open_named_same : (ds : List (Option Descriptor)) (mode : ℕ) (o : Option (List ℕ)) → Same (open_named (directory s.files) ds mode o) (open_named (directory t.files) ds mode o)
  open_named_same ds mode None a = refl
  open_named_same ds mode (Some name) a = if_same (not (list_all is_name_byte name)) _ _ _ (open_free_same (free_descriptor ds) mode name) a

  row_open_same : (ds : List (Option Descriptor)) (n mode : ℕ) (o : Option (List ℕ)) → Same (row_open (directory s.files) ds n mode o) (row_open (directory t.files) ds n mode o)
  row_open_same ds n mode o = if_same (nat_lt 2 mode) _ _ _ (if_same (is_bad_length n) _ _ _ (open_named_same ds mode o))

  unlink_knows : (o : Option ℕ) → KnowsNames (unlink_file o)
  unlink_knows None a = a.0
  unlink_knows (Some file) a = a.0

  unlink_named_same : (o : Option (List ℕ)) → Same (unlink_named (directory s.files) o) (unlink_named (directory t.files) o)
  unlink_named_same None a = refl
  unlink_named_same (Some name) a =
      if_same (not (list_all is_name_byte name)) _ _ _
      (λ b. ap (λ (dir : Directory). unlink_file (number_named dir name)) (sym (unlink_knows (number_named (directory s.files) name) b))) a

  row_unlink_same : (n : ℕ) (o : Option (List ℕ)) → Same (row_unlink (directory s.files) n o) (row_unlink (directory t.files) n o)
  row_unlink_same n o = if_same (is_bad_length n) _ _ _ (unlink_named_same o)

  rename_knows : (dir : Directory) (old new : List ℕ) (o : Option ℕ) → KnowsNames (rename_file dir old new o)
  rename_knows dir old new None a = a.0
  rename_knows dir old new (Some file) a = either_knows (bytes_eq old new) _ _ (λ b. b.0) (λ b. b.0) a

  rename_named_same : (old new : List ℕ) → Same (rename_named (directory s.files) old new) (rename_named (directory t.files) old new)
  rename_named_same old new =
      if_same (not (list_all is_name_byte old && list_all is_name_byte new)) _ _ _
      (λ a. ap (λ (dir : Directory). rename_file dir old new (number_named dir old)) (sym (rename_knows (directory s.files) old new (number_named (directory s.files) old) a)))

  rename_read_same : (n : ℕ) (o : Option (List ℕ)) → Same (rename_read (directory s.files) n o) (rename_read (directory t.files) n o)
  rename_read_same n None a = refl
  rename_read_same n (Some names) a = rename_named_same (take n names) (drop n names) a

  row_rename_same : (n m : ℕ) (o : Option (List ℕ)) → Same (row_rename (directory s.files) n m o) (row_rename (directory t.files) n m o)
  row_rename_same n m o = if_same (is_bad_length n || is_bad_length m) _ _ _ (rename_read_same n o)

  -- ---- exec
  -- a file of a number lives in both or in none, where the names of the files are the same
  alive_named : AgreeOn s t carrier.Names → (file : ℕ) → is_some (file_of t.files file) ≡ is_some (file_of s.files file)
  alive_named a file = by_names t.files file ∙ sym (ap (λ (dir : Directory). is_some (at_place dir.names (position (λ n. n == file) dir.numbers))) a) ∙ sym (by_names s.files file)

  image_knows : (file : ℕ) (bytes : List ℕ) (o : Option ElfFault) → Agree s t (exec_image file bytes o).reads → AgreeOn s t carrier.Names × AgreeOn s t (carrier.File file)
  image_knows file bytes None a = (a.0, a.1.0)
  image_knows file bytes (Some fault) a = (a.0, a.1.0)

  found_knows : (file : ℕ) (o : Option NamedFile) → Agree s t (exec_found file o).reads → AgreeOn s t carrier.Names
  found_knows file None a = a.0
  found_knows file (Some f) a = (image_knows file f.bytes (first_fault f.bytes) a).0

  exec_knows : (o : Option ℕ) → KnowsNames (exec_file s.files o)
  exec_knows None a = a.0
  exec_knows (Some file) a = found_knows file (file_of s.files file) a

  exec_found_same : (file : ℕ) (o p : Option NamedFile) → (AgreeOn s t carrier.Names → is_some p ≡ is_some o)
      → (AgreeOn s t (carrier.File file) → option_map (λ (f : NamedFile). f.bytes) o ≡ option_map (λ (f : NamedFile). f.bytes) p) → Same (exec_found file o) (exec_found file p)
  exec_found_same file None None alive same a = refl
  exec_found_same file None (Some g) alive same a = absurd (false≢true (sym (alive a.0)))
  exec_found_same file (Some f) None alive same a = absurd (false≢true (alive (image_knows file f.bytes (first_fault f.bytes) a).0))
  exec_found_same file (Some f) (Some g) alive same a =
      let known = same (image_knows file f.bytes (first_fault f.bytes) a).1 in
      let bytes : g.bytes ≡ f.bytes = cc in
      ap (λ (xs : List ℕ). exec_image file xs (first_fault xs)) bytes

  exec_file_same : (o : Option ℕ) → Same (exec_file s.files o) (exec_file t.files o)
  exec_file_same None a = refl
  exec_file_same (Some file) a = exec_found_same file (file_of s.files file) (file_of t.files file) (λ b. alive_named b file) (λ b. b) a

  exec_named_same : (o : Option (List ℕ)) → Same (exec_named s.files o) (exec_named t.files o)
  exec_named_same None a = refl
  exec_named_same (Some name) a =
      if_same (not (list_all is_name_byte name)) _ _ _
      (λ b. ap (λ (dir : Directory). exec_file t.files (number_named dir name)) (sym (exec_knows (number_named (directory s.files) name) b))
      ∙ exec_file_same (number_named (directory s.files) name) b) a

  row_exec_same : (n : ℕ) (o : Option (List ℕ)) → Same (row_exec s.files n o) (row_exec t.files n o)
  row_exec_same n o = if_same (is_bad_length n) _ _ _ (exec_named_same o)

  -- ---- pipe, fork, wait
  pipe_free_same : (at : ℕ) (reader writer : Option ℕ) → Same (pipe_free (length s.pipes) at reader writer) (pipe_free (length t.pipes) at reader writer)
  pipe_free_same at (Some reader) (Some writer) a =
      ap (λ (n : ℕ). pipe_free n at (Some reader) (Some writer)) (sym (by (nat_le most_pipes (length s.pipes)) a))
    where
      by : (b : Bool) → Agree s t (if b then record (failure 23) { reads = carrier.Pipes ∷ []; writes = carrier.Pipes ∷ [] } else pipe_made (length s.pipes) at reader writer).reads → AgreeOn s t carrier.Pipes
      by true a = a.0
      by false a = a.0
  pipe_free_same at (Some reader) None a = refl
  pipe_free_same at None writer a = refl

  row_pipe_same : (ds : List (Option Descriptor)) (at : ℕ) (fits : Bool) → Same (row_pipe (length s.pipes) ds at fits) (row_pipe (length t.pipes) ds at fits)
  row_pipe_same ds at fits = if_same (not fits) _ _ _ (pipe_free_same at (free_descriptor ds) (free_after ds (free_descriptor ds)))

  abbrev KnowsTasks : CallEffect → Type 0
  KnowsTasks x = Agree s t x.reads → AgreeOn s t carrier.Tasks

  fork_knows : (n : ℕ) (ds : List (Option Descriptor)) → KnowsTasks (row_fork n ds)
  fork_knows n ds = by (nat_le most_processes n) _ _ (λ a. a.0) (λ a. a.0)
    where
      by : (b : Bool) (x y : CallEffect) → KnowsTasks x → KnowsTasks y → KnowsTasks (if b then x else y)
      by true x y f g = f
      by false x y f g = g

  row_fork_same : (ds : List (Option Descriptor)) → Same (row_fork (length (shared s).statuses) ds) (row_fork (length (shared t).statuses) ds)
  row_fork_same ds a =
      let known : length s.processes ≡ length t.processes = fork_knows (length (shared s).statuses) ds a in
      ap (λ (n : ℕ). row_fork n ds) (length-map t.processes (λ (p : Process). p.status) ∙ sym known ∙ sym (length-map s.processes (λ (p : Process). p.status)))

  ended_same : (children : List ℕ) → Agree s t (map carrier.Proc children) → first_ended (shared t).statuses children ≡ first_ended (shared s).statuses children
  ended_same [] a = refl
  ended_same (c ∷ cs) a =
      let known : status_in (shared t).statuses c ≡ status_in (shared s).statuses c =
      status_at t.processes c ∙ ap status_of (sym a.0) ∙ sym (status_at s.processes c) in
      ap (λ (o : Option ℕ). ended_or c o (first_ended (shared t).statuses cs)) known
      ∙ ap (λ (o : Option EndedChild). ended_or c (status_in (shared s).statuses c) o) (ended_same cs a.1)

  wait_knows : (at : ℕ) (children : List ℕ) (o : Option EndedChild) → Agree s t (wait_ended at children o).reads → Agree s t (map carrier.Proc children)
  wait_knows at children None a = a
  wait_knows at children (Some e) a = a

  row_wait_same : (children : List ℕ) (at : ℕ) (fits : Bool) → Same (row_wait (shared s).statuses children at fits) (row_wait (shared t).statuses children at fits)
  row_wait_same children at fits =
      if_same (not fits) _ _ _ (if_same (length children == 0) _ _ _
      (λ a. ap (λ (o : Option EndedChild). wait_ended at children o) (ended_same children (wait_knows at children (first_ended (shared s).statuses children) a))))

  -- ---- the table
  pub row_same : (p : ℕ) (ds : List (Option Descriptor)) (children : List ℕ) (r : Request) → Same (row (shared s) p ds children r) (row (shared t) p ds children r)
  row_same p ds children (request.Exit status) a = refl
  row_same p ds children (request.Write fd n bytes) a = row_write_same (descriptor_at ds fd) fd n bytes a
  row_same p ds children (request.Read fd at n fits) a = row_read_same (descriptor_at ds fd) fd at n fits a
  row_same p ds children (request.Open n mode name) a = row_open_same ds n mode name a
  row_same p ds children (request.Close fd) a = refl
  row_same p ds children (request.Pipe at fits) a = row_pipe_same ds at fits a
  row_same p ds children request.Fork a = row_fork_same ds a
  row_same p ds children (request.Wait at fits) a = row_wait_same children at fits a
  row_same p ds children request.GetPid a = refl
  row_same p ds children (request.Seek fd offset) a = row_seek_same (descriptor_at ds fd) fd offset a
  row_same p ds children request.Sync a = refl
  row_same p ds children (request.Unlink n name) a = row_unlink_same n name a
  row_same p ds children (request.Rename n m names) a = row_rename_same n m names a
  row_same p ds children (request.Exec n name) a = row_exec_same n name a
  row_same p ds children request.Unknown a = refl
