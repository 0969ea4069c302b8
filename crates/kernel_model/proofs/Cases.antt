-- The table of calls, walked once: what holds of each effect that a row may have holds of the row.
use Rattle.std.proofs.Common.{◌≡◌, ℕ, ◌+◌, ◌-◌, ◌%◌, ◌<◌, ◌≤◌, ◌==◌, ◌||◌, nat_lt, nat_le, ◌&&◌, Bool, true, false, not, List, [], ◌∷◌, length, take, drop, map, slice_get, Option, Some, None, IfSome, refl}
use Rattle.std.specs.Prelude.{if◌then◌else◌}
use Rattle.std.specs.List.{list_all}
use Rattle.std.specs.Str.{bytes_eq}
use Rattle.std.proofs.lemmas.Bool.{and_parts, leb-false, ltb-false, not-false, or_parts}
use Rattle.disk_model.specs.declared.change.NamedFile.{NamedFile}
use Rattle.disk_model.specs.Files.{is_name_byte}
use Rattle.disk_model.specs.Numbers.{Numbered, file_of, lives}
use Rattle.disk_model.proofs.Lists.{some_of}
use Rattle.machine_model.specs.declared.stop.Stop.{Stop}
use Rattle.machine_model.specs.declared.stop.Stop.TheVariants.{Limit, Call, Trap}
use Rattle.disk_model.specs.Limits.{most_files, longest_name, longest_file}
use Rattle.image_model.specs.declared.fault.ElfFault.{ElfFault}
use Rattle.image_model.specs.Checks.{first_fault}
use Rattle.kernel_model.specs.Requests.{most_bytes, request_of}
use Rattle.machine_model.specs.Numbers.{cause_number}
use Rattle.kernel_model.specs.Rows.{CallEffect, looking_at, Directory, directory, number_named, is_bad_length, seek_file, seek_to, row_unlink, unlink_named, unlink_file, row_rename, rename_read, rename_file, rename_to, row_exec, exec_named, exec_file, exec_found, exec_image, EndedChild, only, number, failure, bad_address, carrier_of, ends_of, row, row_end, row_write, write_read, write_to, write_file, write_pipe, put_some, may_write, row_read, read_from, read_file, read_tape, read_pipe, take_some, may_read, row_close, row_open, open_named, open_free, open_file, open_there, open_emptied, open_new, row_pipe, pipe_free, pipe_made, row_fork, row_wait, wait_ended, first_ended, free_descriptor, free_after, descriptor_at, most_pipes, most_processes, pipe_size}
use Rattle.kernel_model.specs.State.{Process, Shared, PipeState, TapeState, unread}
use Rattle.kernel_model.specs.Steps.{effect_at}
use Rattle.kernel_model.specs.declared.carrier.Carrier.{Carrier}
use Rattle.kernel_model.specs.declared.carrier.Carrier.TheVariants as carrier
use Rattle.kernel_model.specs.declared.descriptor.Descriptor.{Descriptor}
use Rattle.kernel_model.specs.declared.descriptor.Descriptor.TheVariants as descriptor
use Rattle.kernel_model.specs.declared.descriptor.PipeEnd.TheVariants as pipe_end
use Rattle.kernel_model.specs.declared.effect.PipeStep.TheVariants as pipe_step
use Rattle.kernel_model.specs.declared.effect.FileEdit.TheVariants as edit
use Rattle.kernel_model.specs.declared.request.Request.{Request}
use Rattle.kernel_model.specs.declared.request.Request.TheVariants as request
use Rattle.kernel_model.specs.declared.request.Verdict.TheVariants.{Waits}

-- ---- effects

-- a reply of a number, which reads and writes these carriers, and makes no edit
abbrev pub plain : ℕ → List Carrier → List Carrier → CallEffect
plain k reads writes = record (only (number k)) { reads = reads; writes = writes }

-- no reply yet
abbrev pub waiting : List Carrier → List Carrier → CallEffect
waiting reads writes = record (only Waits) { reads = reads; writes = writes }

-- bytes for a terminal
abbrev pub to_terminal : ℕ → List ℕ → CallEffect
to_terminal t bytes = record (only (number (length bytes))) { output = Some (record { terminal = t; bytes = bytes }) }

-- bytes for a file
abbrev pub to_file : ℕ → ℕ → ℕ → List ℕ → CallEffect
to_file fd file offset bytes = record (only (number (length bytes))) {
  reads = carrier.File file ∷ [];
  writes = carrier.File file ∷ [];
  edit = Some (edit.Write file offset bytes);
  slots = record { fd = fd; holds = Some (descriptor.File file (offset + length bytes) true) } ∷ [];
}

-- bytes of a file
abbrev pub from_file : ℕ → ℕ → ℕ → ℕ → ℕ → NamedFile → CallEffect
from_file fd file offset at n f = looking_at (Some (descriptor.File file offset false)) (read_file fd file offset at n (Some f))

-- another offset of a file
abbrev pub to_offset : ℕ → ℕ → ℕ → Bool → CallEffect
to_offset fd file offset writes = record (only (number offset)) {
  reads = carrier.File file ∷ [];
  slots = record { fd = fd; holds = Some (descriptor.File file offset writes) } ∷ [];
}

-- the process of this number is made, by a caller with these descriptors
abbrev pub child_made : ℕ → List (Option Descriptor) → CallEffect
child_made child ds = record (only (number child)) {
  reads = carrier.Tasks ∷ carrier.Proc child ∷ map carrier_of (ends_of ds);
  writes = carrier.Tasks ∷ carrier.Proc child ∷ map carrier_of (ends_of ds);
  pipes = map pipe_step.Add (ends_of ds);
  child = Some child;
}

-- when n bytes go to a file of these, through a descriptor of these
pub record GoesToFile (files : Numbered) (ds : List (Option Descriptor)) (fd n file offset : ℕ) (bytes : List ℕ) : Type 0 where
  pub stands : descriptor_at ds fd ≡ Some (descriptor.File file offset true)
  pub some : 1 ≤ n
  pub most : n ≤ 1024
  pub fits : offset + length bytes ≤ 16384
  pub alive : lives files file ≡ true

-- when a file is made by a name of n bytes, in this directory
pub record IsMadeNew (dir : Directory) (n : ℕ) (name : List ℕ) : Type 0 where
  pub some : 1 ≤ n
  pub most : n ≤ 32
  pub good : list_all is_name_byte name ≡ true
  pub new : number_named dir name ≡ None
  pub room : length dir.names < 32

-- when a file gets a name of m bytes in place of one of n bytes, in this directory
pub record IsRenamed (dir : Directory) (n m : ℕ) (old new : List ℕ) (file : ℕ) : Type 0 where
  pub named : number_named dir old ≡ Some file
  pub first : n ≤ 32
  pub some : 1 ≤ m
  pub most : m ≤ 32
  pub good : list_all is_name_byte new ≡ true
  pub differs : bytes_eq old new ≡ false

-- What has to hold of each effect that a row may have, of a request of a caller with these descriptors and these children left to
-- collect. Each field is one effect, after what is so where it comes.
pub record OfEach (P : CallEffect → Type 0) (s : Shared) (ds : List (Option Descriptor)) (children : List ℕ) (r : Request) : Type 0 where
  -- a number, as of an error, and no edit; and no reply yet
  pub told : (k : ℕ) (reads writes : List Carrier) → P (plain k reads writes)
  pub waits : (reads writes : List Carrier) → P (waiting reads writes)
  -- a write to a terminal, to a file, and to a pipe that has room
  pub shown : (t : ℕ) (bytes : List ℕ) → P (to_terminal t bytes)
  pub filed : (fd n file offset : ℕ) (bytes : List ℕ) → r ≡ request.Write fd n (Some bytes) → GoesToFile s.files ds fd n file offset bytes
      → P (to_file fd file offset bytes)
  pub put : (fd n k : ℕ) (bytes : List ℕ) (p : PipeState) → r ≡ request.Write fd n (Some bytes) → slice_get s.pipes k ≡ Some p
      → length (unread p) < 4096 → P (put_some k bytes (pipe_size - length (unread p)))
  -- a read of a tape, of a file, and of a pipe
  pub played : (fd at n t : ℕ) (tape : TapeState) → r ≡ request.Read fd at n true → slice_get s.tapes t ≡ Some tape
      → P (read_tape t at n (Some tape))
  pub copied : (fd at n file offset : ℕ) (f : NamedFile) → r ≡ request.Read fd at n true
      → descriptor_at ds fd ≡ Some (descriptor.File file offset false) → file_of s.files file ≡ Some f → P (from_file fd file offset at n f)
  pub taken : (fd at n k : ℕ) (p : PipeState) → r ≡ request.Read fd at n true → slice_get s.pipes k ≡ Some p → P (take_some k at n (unread p))
  -- an open of a file that is there, as it stands or emptied, and of a new one
  pub there : (fd file : ℕ) (name : List ℕ) (writes : Bool) → free_descriptor ds ≡ Some fd → number_named (directory s.files) name ≡ Some file
      → P (open_there fd file writes)
  pub emptied : (fd file : ℕ) (name : List ℕ) → free_descriptor ds ≡ Some fd → number_named (directory s.files) name ≡ Some file → P (open_emptied fd file)
  pub made : (fd n mode : ℕ) (name : List ℕ) → r ≡ request.Open n mode (Some name) → free_descriptor ds ≡ Some fd
      → IsMadeNew (directory s.files) n name → P (open_new fd s.files.made name)
  -- a file that loses its name, and one that gets another
  pub unlinked : (file n : ℕ) (name : List ℕ) → r ≡ request.Unlink n (Some name) → number_named (directory s.files) name ≡ Some file
      → P (unlink_file (Some file))
  pub renamed : (file n m : ℕ) (names : List ℕ) → r ≡ request.Rename n m (Some names)
      → IsRenamed (directory s.files) n m (take n names) (drop n names) file
      → P (rename_to file (drop n names) (number_named (directory s.files) (drop n names)))
  -- a file whose image the caller goes on with
  pub loaded : (file n : ℕ) (name : List ℕ) (f : NamedFile) → r ≡ request.Exec n (Some name) → number_named (directory s.files) name ≡ Some file
      → file_of s.files file ≡ Some f → first_fault f.bytes ≡ None → P (exec_image file f.bytes None)
  -- a close, and a seek
  pub closed : (fd : ℕ) (d : Descriptor) → descriptor_at ds fd ≡ Some d → P (row_close (Some d) fd)
  pub moved : (fd file old offset : ℕ) (writes : Bool) → descriptor_at ds fd ≡ Some (descriptor.File file old writes)
      → P (to_offset fd file offset writes)
  -- a new pipe, a new process, and a child that is collected
  pub piped : (at reader writer : ℕ) → r ≡ request.Pipe at true → free_descriptor ds ≡ Some reader → free_after ds (Some reader) ≡ Some writer
      → length s.pipes < 1024 → P (pipe_made (length s.pipes) at reader writer)
  pub forked : length s.statuses < 1024 → P (child_made (length s.statuses + 1) ds)
  pub collected : (at : ℕ) (e : EndedChild) → r ≡ request.Wait at true → first_ended s.statuses children ≡ Some e → P (wait_ended at children (Some e))
  -- the end of the caller
  pub ended : (status : ℕ) → P (row_end ds status)

-- ---- the walk

-- Below, a request of which that holds.
module _ (P : CallEffect → Type 0) (s : Shared) (ds : List (Option Descriptor)) (children : List ℕ) (r : Request) (of : OfEach P s ds children r) where
  by_test : (b : Bool) (x y : CallEffect) → (b ≡ true → P x) → (b ≡ false → P y) → P (if b then x else y)
  by_test true x y p q = p refl
  by_test false x y p q = q refl

  -- the same of what looks at what a descriptor stands for
  by_look : (d : Option Descriptor) (b : Bool) (x y : CallEffect) → (b ≡ true → P (looking_at d x)) → (b ≡ false → P (looking_at d y))
      → P (looking_at d (if b then x else y))
  by_look d true x y p q = p refl
  by_look d false x y p q = q refl

  -- write
  write_file_is : (fd n file offset : ℕ) (bytes : List ℕ) → r ≡ request.Write fd n (Some bytes)
      → descriptor_at ds fd ≡ Some (descriptor.File file offset true) → 1 ≤ n → n ≤ 1024 → lives s.files file ≡ true
      → P (looking_at (Some (descriptor.File file offset true)) (write_file fd file offset bytes))
  write_file_is fd n file offset bytes is stands some most alive =
      by_look (Some (descriptor.File file offset true)) (nat_lt longest_file (offset + length bytes)) _ _ (λ _. of.told _ _ _) (λ h.
      of.filed fd n file offset bytes is (record { stands = stands; some = some; most = most; fits = ltb-false longest_file (offset + length bytes) h; alive = alive }))

  write_pipe_is : (fd n k : ℕ) (bytes : List ℕ) (o : Option PipeState) → r ≡ request.Write fd n (Some bytes) → slice_get s.pipes k ≡ o
      → P (write_pipe k bytes o)
  write_pipe_is fd n k bytes None is found = of.told _ _ _
  write_pipe_is fd n k bytes (Some p) is found =
      by_test (p.readers == 0) _ _ (λ _. of.told _ _ _) (λ _.
      by_test (nat_le pipe_size (length (unread p))) _ _ (λ _. of.waits _ _) (λ h. of.put fd n k bytes p is found (leb-false pipe_size (length (unread p)) h)))

  write_to_is : (d : Option Descriptor) (fd n : ℕ) (bytes : List ℕ) → r ≡ request.Write fd n (Some bytes) → descriptor_at ds fd ≡ d
      → 1 ≤ n → n ≤ 1024 → may_write s.files d ≡ true → P (looking_at d (write_to s d fd bytes))
  write_to_is (Some (descriptor.Terminal t)) fd n bytes is stands some most may = of.shown t bytes
  write_to_is (Some (descriptor.File file offset true)) fd n bytes is stands some most may = write_file_is fd n file offset bytes is stands some most may
  write_to_is (Some (descriptor.File file offset false)) fd n bytes is stands some most may = of.told _ _ _
  write_to_is (Some (descriptor.Pipe (pipe_end.Write k))) fd n bytes is stands some most may = write_pipe_is fd n k bytes (slice_get s.pipes k) is refl
  write_to_is (Some (descriptor.Pipe (pipe_end.Read k))) fd n bytes is stands some most may = of.told _ _ _
  write_to_is (Some (descriptor.Tape t)) fd n bytes is stands some most may = of.told _ _ _
  write_to_is None fd n bytes is stands some most may = of.told _ _ _

  write_read_is : (fd n : ℕ) (o : Option (List ℕ)) → r ≡ request.Write fd n o → 1 ≤ n → n ≤ 1024 → may_write s.files (descriptor_at ds fd) ≡ true
      → P (looking_at (descriptor_at ds fd) (write_read s (descriptor_at ds fd) fd o))
  write_read_is fd n None is some most may = of.told _ _ _
  write_read_is fd n (Some bytes) is some most may = write_to_is (descriptor_at ds fd) fd n bytes is refl some most may

  row_write_is : (fd n : ℕ) (o : Option (List ℕ)) → r ≡ request.Write fd n o → P (row_write s (descriptor_at ds fd) fd n o)
  row_write_is fd n o is =
      by_look (descriptor_at ds fd) (not (may_write s.files (descriptor_at ds fd))) _ _ (λ _. of.told _ _ _) (λ may.
      by_look (descriptor_at ds fd) (nat_lt most_bytes n) _ _ (λ _. of.told _ _ _) (λ most.
      by_look (descriptor_at ds fd) (n == 0) _ _ (λ _. of.told _ _ _) (λ some.
      write_read_is fd n o is (some_of (n == 0) n refl some) (ltb-false most_bytes n most) (not-false (may_write s.files (descriptor_at ds fd)) may))))

  -- read
  read_tape_is : (fd at n t : ℕ) (o : Option TapeState) → r ≡ request.Read fd at n true → slice_get s.tapes t ≡ o → P (read_tape t at n o)
  read_tape_is fd at n t None is found = of.told _ _ _
  read_tape_is fd at n t (Some tape) is found = of.played fd at n t tape is found

  read_file_is : (fd at n file offset : ℕ) (o : Option NamedFile) → r ≡ request.Read fd at n true
      → descriptor_at ds fd ≡ Some (descriptor.File file offset false) → file_of s.files file ≡ o
      → P (looking_at (Some (descriptor.File file offset false)) (read_file fd file offset at n o))
  read_file_is fd at n file offset None is stands found = of.told _ _ _
  read_file_is fd at n file offset (Some f) is stands found = of.copied fd at n file offset f is stands found

  read_pipe_is : (fd at n k : ℕ) (o : Option PipeState) → r ≡ request.Read fd at n true → slice_get s.pipes k ≡ o → P (read_pipe k at n o)
  read_pipe_is fd at n k None is found = of.told _ _ _
  read_pipe_is fd at n k (Some p) is found =
      by_test (nat_lt 0 (length (unread p))) _ _ (λ _. of.taken fd at n k p is found) (λ _.
      by_test (p.writers == 0) _ _ (λ _. of.told _ _ _) (λ _. of.waits _ _))

  read_from_is : (d : Option Descriptor) (fd at n : ℕ) → r ≡ request.Read fd at n true → descriptor_at ds fd ≡ d → P (looking_at d (read_from s d fd at n))
  read_from_is (Some (descriptor.Tape t)) fd at n is stands = read_tape_is fd at n t (slice_get s.tapes t) is refl
  read_from_is (Some (descriptor.File file offset false)) fd at n is stands = read_file_is fd at n file offset (file_of s.files file) is stands refl
  read_from_is (Some (descriptor.File file offset true)) fd at n is stands = of.told _ _ _
  read_from_is (Some (descriptor.Pipe (pipe_end.Read k))) fd at n is stands = read_pipe_is fd at n k (slice_get s.pipes k) is refl
  read_from_is (Some (descriptor.Pipe (pipe_end.Write k))) fd at n is stands = of.told _ _ _
  read_from_is (Some (descriptor.Terminal t)) fd at n is stands = of.told _ _ _
  read_from_is None fd at n is stands = of.told _ _ _

  read_placed_is : (fd at n : ℕ) (fits : Bool) → r ≡ request.Read fd at n fits
      → P (looking_at (descriptor_at ds fd) (if not fits then failure bad_address else read_from s (descriptor_at ds fd) fd at n))
  read_placed_is fd at n true is = read_from_is (descriptor_at ds fd) fd at n is refl
  read_placed_is fd at n false is = of.told _ _ _

  row_read_is : (fd at n : ℕ) (fits : Bool) → r ≡ request.Read fd at n fits → P (row_read s (descriptor_at ds fd) fd at n fits)
  row_read_is fd at n fits is =
      by_look (descriptor_at ds fd) (not (may_read s.files (descriptor_at ds fd))) _ _ (λ _. of.told _ _ _) (λ _.
      by_look (descriptor_at ds fd) (nat_lt most_bytes n) _ _ (λ _. of.told _ _ _) (λ _.
      by_look (descriptor_at ds fd) (n == 0) _ _ (λ _. of.told _ _ _) (λ _. read_placed_is fd at n fits is)))

  -- names
  good_length : (n : ℕ) → is_bad_length n ≡ false → (1 ≤ n) × (n ≤ 32)
  good_length n h = let both = or_parts (n == 0) (nat_lt longest_name n) h in (some_of (n == 0) n refl both.0, ltb-false longest_name n both.1)

  -- open
  open_file_is : (fd n mode : ℕ) (name : List ℕ) (o : Option ℕ) → r ≡ request.Open n mode (Some name) → free_descriptor ds ≡ Some fd
      → 1 ≤ n → n ≤ 32 → list_all is_name_byte name ≡ true → number_named (directory s.files) name ≡ o
      → P (open_file (directory s.files) fd mode name o)
  open_file_is fd n mode name (Some file) is free some most good found =
      by_test (mode == 2) _ _ (λ _. of.emptied fd file name free found) (λ _. of.there fd file name (mode == 1) free found)
  open_file_is fd n mode name None is free some most good found =
      by_test (mode == 2) _ _
      (λ _. by_test (nat_le most_files (length (directory s.files).names)) _ _ (λ _. of.told _ _ _) (λ h.
      of.made fd n mode name is free (record { some = some; most = most; good = good; new = found; room = leb-false most_files (length (directory s.files).names) h })))
      (λ _. of.told _ _ _)

  open_free_is : (o : Option ℕ) (n mode : ℕ) (name : List ℕ) → r ≡ request.Open n mode (Some name) → free_descriptor ds ≡ o
      → 1 ≤ n → n ≤ 32 → list_all is_name_byte name ≡ true → P (open_free (directory s.files) o mode name)
  open_free_is None n mode name is free some most good = of.told _ _ _
  open_free_is (Some fd) n mode name is free some most good =
      open_file_is fd n mode name (number_named (directory s.files) name) is free some most good refl

  open_named_is : (n mode : ℕ) (o : Option (List ℕ)) → r ≡ request.Open n mode o → 1 ≤ n → n ≤ 32 → P (open_named (directory s.files) ds mode o)
  open_named_is n mode None is some most = of.told _ _ _
  open_named_is n mode (Some name) is some most =
      by_test (not (list_all is_name_byte name)) _ _ (λ _. of.told _ _ _) (λ h.
      open_free_is (free_descriptor ds) n mode name is refl some most (not-false (list_all is_name_byte name) h))

  row_open_is : (n mode : ℕ) (o : Option (List ℕ)) → r ≡ request.Open n mode o → P (row_open (directory s.files) ds n mode o)
  row_open_is n mode o is =
      by_test (nat_lt 2 mode) _ _ (λ _. of.told _ _ _) (λ _.
      by_test (is_bad_length n) _ _ (λ _. of.told _ _ _) (λ h. let long = good_length n h in open_named_is n mode o is long.0 long.1))

  -- unlink and rename
  unlink_file_is : (n : ℕ) (name : List ℕ) (o : Option ℕ) → r ≡ request.Unlink n (Some name) → number_named (directory s.files) name ≡ o → P (unlink_file o)
  unlink_file_is n name None is found = of.told _ _ _
  unlink_file_is n name (Some file) is found = of.unlinked file n name is found

  unlink_named_is : (n : ℕ) (o : Option (List ℕ)) → r ≡ request.Unlink n o → P (unlink_named (directory s.files) o)
  unlink_named_is n None is = of.told _ _ _
  unlink_named_is n (Some name) is =
      by_test (not (list_all is_name_byte name)) _ _ (λ _. of.told _ _ _) (λ _. unlink_file_is n name (number_named (directory s.files) name) is refl)

  row_unlink_is : (n : ℕ) (o : Option (List ℕ)) → r ≡ request.Unlink n o → P (row_unlink (directory s.files) n o)
  row_unlink_is n o is = by_test (is_bad_length n) _ _ (λ _. of.told _ _ _) (λ _. unlink_named_is n o is)

  rename_file_is : (n m : ℕ) (names : List ℕ) (o : Option ℕ) → r ≡ request.Rename n m (Some names) → n ≤ 32 → 1 ≤ m → m ≤ 32
      → list_all is_name_byte (drop n names) ≡ true → number_named (directory s.files) (take n names) ≡ o
      → P (rename_file (directory s.files) (take n names) (drop n names) o)
  rename_file_is n m names None is first some most good found = of.told _ _ _
  rename_file_is n m names (Some file) is first some most good found =
      by_test (bytes_eq (take n names) (drop n names)) _ _ (λ _. of.told _ _ _) (λ h.
      of.renamed file n m names is (record { named = found; first = first; some = some; most = most; good = good; differs = h }))

  rename_read_is : (n m : ℕ) (o : Option (List ℕ)) → r ≡ request.Rename n m o → n ≤ 32 → 1 ≤ m → m ≤ 32 → P (rename_read (directory s.files) n o)
  rename_read_is n m None is first some most = of.told _ _ _
  rename_read_is n m (Some names) is first some most =
      by_test (not (list_all is_name_byte (take n names) && list_all is_name_byte (drop n names))) _ _ (λ _. of.told _ _ _) (λ h.
      let both = and_parts (list_all is_name_byte (take n names)) (list_all is_name_byte (drop n names)) (not-false _ h) in
      rename_file_is n m names (number_named (directory s.files) (take n names)) is first some most both.1 refl)

  row_rename_is : (n m : ℕ) (o : Option (List ℕ)) → r ≡ request.Rename n m o → P (row_rename (directory s.files) n m o)
  row_rename_is n m o is =
      by_test (is_bad_length n || is_bad_length m) _ _ (λ _. of.told _ _ _) (λ h.
      let both = or_parts (is_bad_length n) (is_bad_length m) h in
      let old = good_length n both.0 in
      let new = good_length m both.1 in
      rename_read_is n m o is old.1 new.0 new.1)

  -- exec
  exec_image_is : (file n : ℕ) (name : List ℕ) (f : NamedFile) (o : Option ElfFault) → r ≡ request.Exec n (Some name)
      → number_named (directory s.files) name ≡ Some file → file_of s.files file ≡ Some f → first_fault f.bytes ≡ o → P (exec_image file f.bytes o)
  exec_image_is file n name f None is named found good = of.loaded file n name f is named found good
  exec_image_is file n name f (Some fault) is named found bad = of.told _ _ _

  exec_found_is : (file n : ℕ) (name : List ℕ) (o : Option NamedFile) → r ≡ request.Exec n (Some name) → number_named (directory s.files) name ≡ Some file
      → file_of s.files file ≡ o → P (exec_found file o)
  exec_found_is file n name None is named found = of.told _ _ _
  exec_found_is file n name (Some f) is named found = exec_image_is file n name f (first_fault f.bytes) is named found refl

  exec_file_is : (n : ℕ) (name : List ℕ) (o : Option ℕ) → r ≡ request.Exec n (Some name) → number_named (directory s.files) name ≡ o → P (exec_file s.files o)
  exec_file_is n name None is named = of.told _ _ _
  exec_file_is n name (Some file) is named = exec_found_is file n name (file_of s.files file) is named refl

  exec_named_is : (n : ℕ) (o : Option (List ℕ)) → r ≡ request.Exec n o → P (exec_named s.files o)
  exec_named_is n None is = of.told _ _ _
  exec_named_is n (Some name) is =
      by_test (not (list_all is_name_byte name)) _ _ (λ _. of.told _ _ _) (λ _. exec_file_is n name (number_named (directory s.files) name) is refl)

  row_exec_is : (n : ℕ) (o : Option (List ℕ)) → r ≡ request.Exec n o → P (row_exec s.files n o)
  row_exec_is n o is = by_test (is_bad_length n) _ _ (λ _. of.told _ _ _) (λ _. exec_named_is n o is)

  -- close and seek
  row_close_is : (o : Option Descriptor) (fd : ℕ) → descriptor_at ds fd ≡ o → P (row_close o fd)
  row_close_is None fd stands = of.told _ [] []
  row_close_is (Some d) fd stands = of.closed fd d stands

  seek_file_is : (fd file old offset : ℕ) (writes alive : Bool) → descriptor_at ds fd ≡ Some (descriptor.File file old writes)
      → P (looking_at (Some (descriptor.File file old writes)) (seek_file fd file writes offset alive))
  seek_file_is fd file old offset writes alive stands =
      by_look (Some (descriptor.File file old writes)) (not alive) _ _ (λ _. of.told _ _ _) (λ _.
      by_look (Some (descriptor.File file old writes)) (nat_lt longest_file offset) _ _ (λ _. of.told _ _ _) (λ _. of.moved fd file old offset writes stands))

  seek_to_is : (d : Option Descriptor) (fd offset : ℕ) → descriptor_at ds fd ≡ d → P (looking_at d (seek_to s.files d fd offset))
  seek_to_is (Some (descriptor.File file old writes)) fd offset stands = seek_file_is fd file old offset writes (lives s.files file) stands
  seek_to_is (Some (descriptor.Tape t)) fd offset stands = of.told _ _ _
  seek_to_is (Some (descriptor.Terminal t)) fd offset stands = of.told _ _ _
  seek_to_is (Some (descriptor.Pipe end)) fd offset stands = of.told _ _ _
  seek_to_is None fd offset stands = of.told _ _ _

  -- pipe, fork and wait
  pipe_free_is : (at : ℕ) (reader writer : Option ℕ) → r ≡ request.Pipe at true → free_descriptor ds ≡ reader → free_after ds reader ≡ writer
      → P (pipe_free (length s.pipes) at reader writer)
  pipe_free_is at (Some reader) (Some writer) is free next =
      by_test (nat_le most_pipes (length s.pipes)) _ _ (λ _. of.told _ _ _) (λ h. of.piped at reader writer is free next (leb-false most_pipes (length s.pipes) h))
  pipe_free_is at (Some reader) None is free next = of.told _ [] []
  pipe_free_is at None writer is free next = of.told _ [] []

  row_pipe_is : (at : ℕ) (fits : Bool) → r ≡ request.Pipe at fits → P (row_pipe (length s.pipes) ds at fits)
  row_pipe_is at true is = pipe_free_is at (free_descriptor ds) (free_after ds (free_descriptor ds)) is refl refl
  row_pipe_is at false is = of.told _ [] []

  row_fork_is : P (row_fork (length s.statuses) ds)
  row_fork_is = by_test (nat_le most_processes (length s.statuses)) _ _ (λ _. of.told _ _ _) (λ h. of.forked (leb-false most_processes (length s.statuses) h))

  wait_ended_is : (at : ℕ) (o : Option EndedChild) → r ≡ request.Wait at true → first_ended s.statuses children ≡ o → P (wait_ended at children o)
  wait_ended_is at None is found = of.waits _ []
  wait_ended_is at (Some e) is found = of.collected at e is found

  row_wait_is : (at : ℕ) (fits : Bool) → r ≡ request.Wait at fits → P (row_wait s.statuses children at fits)
  row_wait_is at true is =
      by_test (length children == 0) _ _ (λ _. of.told _ [] []) (λ _. wait_ended_is at (first_ended s.statuses children) is refl)
  row_wait_is at false is = of.told _ [] []

  row_is : (p : ℕ) (q : Request) → r ≡ q → P (row s p ds children q)
  row_is p (request.Exit status) is = of.ended (status % 256)
  row_is p (request.Write fd n bytes) is = row_write_is fd n bytes is
  row_is p (request.Read fd at n fits) is = row_read_is fd at n fits is
  row_is p (request.Open n mode name) is = row_open_is n mode name is
  row_is p (request.Close fd) is = row_close_is (descriptor_at ds fd) fd refl
  row_is p (request.Pipe at fits) is = row_pipe_is at fits is
  row_is p request.Fork is = row_fork_is
  row_is p (request.Wait at fits) is = row_wait_is at fits is
  row_is p request.GetPid is = of.told p [] []
  row_is p (request.Seek fd offset) is = seek_to_is (descriptor_at ds fd) fd offset refl
  row_is p request.Sync is = of.told 0 [] []
  row_is p (request.Unlink n name) is = row_unlink_is n name is
  row_is p (request.Rename n m names) is = row_rename_is n m names is
  row_is p (request.Exec n name) is = row_exec_is n name is
  row_is p request.Unknown is = of.told _ [] []

  -- it holds of the row
  pub of_row : (p : ℕ) → P (row s p ds children r)
  of_row p = row_is p r refl

-- and of what comes of a call or a trap
pub of_effect : (P : CallEffect → Type 0) (s : Shared) (pid : ℕ) (p : Process) (stop : Option Stop) → OfEach P s p.descriptors p.children (request_of p.state)
    → IfSome (effect_at s pid p stop) P
of_effect P s pid p (Some Call) of = of_row P s p.descriptors p.children (request_of p.state) of pid
of_effect P s pid p (Some (Trap cause)) of = of.ended (256 + cause_number cause)
of_effect P s pid p (Some Limit) of = tt
of_effect P s pid p None of = tt
