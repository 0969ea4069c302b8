-- What an effect leaves of what it does not write, and of what two states agree on.
use Rattle.std.proofs.Common.{◌≡◌, ℕ, ◌+◌, ◌==◌, Bool, true, false, List, [], ◌∷◌, length, map, drop, slice_get, Option, Some, None, IfSome, refl, sym, ap, subst, ◌∙◌}
use Rattle.std.specs.Prelude.{if◌then◌else◌, option_map}
use Rattle.std.specs.List.{AllByRecursion, position}
use Rattle.std.specs.Str.{bytes_eq}
use Rattle.std.proofs.lemmas.Bool.{eq-eqb, false≢true, or_parts, or_left}
use Rattle.std.proofs.lemmas.List.{length-map}
use Rattle.disk_model.specs.Files.{patched}
use Rattle.disk_model.specs.Numbers.{at_place}
use Rattle.kernel_model.specs.Entries.{is_among}
use Rattle.kernel_model.specs.Limits.{AreNumbered}
use Rattle.kernel_model.specs.Requests.{request_of}
use Rattle.kernel_model.specs.Rows.{CallEffect, Directory, directory, number_named, ends_of, carrier_of, loser_carriers}
use Rattle.kernel_model.specs.State.{SyncState, Process, shared, changed_by, read_by, all_stepped}
use Rattle.kernel_model.specs.Steps.{change_by, effect_at}
use Rattle.kernel_model.specs.declared.carrier.Carrier.{Carrier}
use Rattle.kernel_model.specs.declared.carrier.Carrier.TheVariants as carrier
use Rattle.kernel_model.specs.declared.descriptor.Descriptor.{Descriptor}
use Rattle.kernel_model.specs.declared.effect.FileEdit.{FileEdit}
use Rattle.kernel_model.specs.declared.effect.FileEdit.TheVariants as edit
use Rattle.kernel_model.specs.declared.effect.PipeStep.{PipeStep}
use Rattle.kernel_model.specs.declared.effect.PipeStep.TheVariants as pipe_step
use Rattle.kernel_model.specs.declared.effect.TapeRead.{TapeRead}
use Rattle.kernel_model.specs.declared.request.Request.{Request}
use Rattle.machine_model.specs.declared.stop.Stop.{Stop}
use Rattle.kernel_model.proofs.Cases.{OfEach, of_effect}
use Rattle.kernel_laws.specs.Agreement.{Agree, AgreeOn, bytes_of}
use Rattle.kernel_laws.proofs.Files.{bytes_after, bytes_changed, directory_after, names_after, without_number, lost_number, loser_in, place_in}
use Rattle.kernel_laws.proofs.Parts.{flip, IsOff, IsOld, steps_off, steps_length, steps_same, open_same, open_off, open_length, drops_off, adds_off, drops_old, adds_old, tape_off, tape_same}

-- What is not among the writes stays as it was; and a process that is made is the next one, and written.
pub record Kept (s : SyncState) (file : Option FileEdit) (tape : Option TapeRead) (steps : List PipeStep) (made : Option ℕ) (writes : List Carrier) : Type 0 where
  pub files : (n : ℕ) → is_among (carrier.File n) writes ≡ false → bytes_of (changed_by s.files (change_by s.files file)) n ≡ bytes_of s.files n
  pub names : is_among carrier.Names writes ≡ false → directory (changed_by s.files (change_by s.files file)) ≡ directory s.files
  pub pipes : (k : ℕ) → is_among (carrier.Pipe k) writes ≡ false → slice_get (all_stepped s.pipes steps) k ≡ slice_get s.pipes k
  pub count : is_among carrier.Pipes writes ≡ false → length (all_stepped s.pipes steps) ≡ length s.pipes
  pub tapes : (k : ℕ) → is_among (carrier.Tape k) writes ≡ false → slice_get (read_by s.tapes tape) k ≡ slice_get s.tapes k
  pub child : IfSome made (λ c. (c ≡ length s.processes + 1) × (is_among carrier.Tasks writes ≡ true) × (is_among (carrier.Proc c) writes ≡ true))

abbrev pub Keeps : SyncState → CallEffect → Type 0
Keeps s e = Kept s e.edit e.tape e.pipes e.child e.writes

-- What two states agree on they agree on afterwards.
pub record Carried (s t : SyncState) (file : Option FileEdit) (tape : Option TapeRead) (steps : List PipeStep) (made : Option ℕ) : Type 0 where
  pub files : (n : ℕ) → AgreeOn s t (carrier.File n) → bytes_of (changed_by s.files (change_by s.files file)) n ≡ bytes_of (changed_by t.files (change_by t.files file)) n
  pub names : AgreeOn s t carrier.Names → directory (changed_by s.files (change_by s.files file)) ≡ directory (changed_by t.files (change_by t.files file))
  pub pipes : (k : ℕ) → AgreeOn s t (carrier.Pipe k) → slice_get (all_stepped s.pipes steps) k ≡ slice_get (all_stepped t.pipes steps) k
  pub count : AgreeOn s t carrier.Pipes → length (all_stepped s.pipes steps) ≡ length (all_stepped t.pipes steps)
  pub tapes : (k : ℕ) → AgreeOn s t (carrier.Tape k) → slice_get (read_by s.tapes tape) k ≡ slice_get (read_by t.tapes tape) k
  pub child : IfSome made (λ c. AgreeOn s t carrier.Tasks)

-- .. where they agree on what it reads
abbrev pub Carries : SyncState → SyncState → CallEffect → Type 0
Carries s t e = Agree s t e.reads → Carried s t e.edit e.tape e.pipes e.child

-- ---- an effect of none of these parts
quiet_kept : (s : SyncState) (writes : List Carrier) → Kept s None None [] None writes
quiet_kept s writes = record { files = λ n h. refl; names = λ h. refl; pipes = λ k h. refl; count = λ h. refl; tapes = λ k h. refl; child = tt }

quiet_carried : (s t : SyncState) → Carried s t None None [] None
quiet_carried s t = record { files = λ n a. a; names = λ a. a; pipes = λ k a. a; count = λ a. a; tapes = λ k a. a; child = tt }

-- ---- one of an edit alone
edit_kept : (s : SyncState) (e : FileEdit) (writes : List Carrier) → AreNumbered s.files
    → ((n : ℕ) → is_among (carrier.File n) writes ≡ false → bytes_after (directory s.files) e n (bytes_of s.files n) ≡ bytes_of s.files n)
    → (is_among carrier.Names writes ≡ false → names_after (directory s.files) e ≡ directory s.files) → Kept s (Some e) None [] None writes
edit_kept s e writes are files names = record {
  files = λ n h. bytes_changed s.files e n are ∙ files n h;
  names = λ h. directory_after s.files e ∙ names h;
  pipes = λ k h. refl;
  count = λ h. refl;
  tapes = λ k h. refl;
  child = tt;
}

edit_carried : (s t : SyncState) (e : FileEdit) → AreNumbered s.files → AreNumbered t.files
    → ((n : ℕ) (o : Option (List ℕ)) → bytes_after (directory s.files) e n o ≡ bytes_after (directory t.files) e n o) → Carried s t (Some e) None [] None
edit_carried s t e are too same = record {
  files = λ n a. bytes_changed s.files e n are ∙ same n (bytes_of s.files n) ∙ ap (bytes_after (directory t.files) e n) a ∙ sym (bytes_changed t.files e n too);
  names = λ a. directory_after s.files e ∙ ap (λ (dir : Directory). names_after dir e) a ∙ sym (directory_after t.files e);
  pipes = λ k a. a;
  count = λ a. a;
  tapes = λ k a. a;
  child = tt;
}

-- where the names are the same
named_carried : (s t : SyncState) (e : FileEdit) → AreNumbered s.files → AreNumbered t.files → AgreeOn s t carrier.Names → Carried s t (Some e) None [] None
named_carried s t e are too a = edit_carried s t e are too (λ n o. ap (λ (dir : Directory). bytes_after dir e n o) a)

-- a file that is not this one
off_if : {A : Type 0} (n file : ℕ) (x y : A) → (n == file) ≡ false → (if file == n then x else y) ≡ y
off_if n file x y h = ap (λ (b : Bool). if b then x else y) (flip n file h)

off_first : (n file : ℕ) (rest : List Carrier) → is_among (carrier.File n) (carrier.File file ∷ rest) ≡ false → (n == file) ≡ false
off_first n file rest h = (or_parts (n == file) (is_among (carrier.File n) rest) h).0

-- the file that loses its name has the new name
lost_named : (dir : Directory) (o : Option ℕ) (new : List ℕ) (m : ℕ) → lost_number dir o new ≡ Some m → number_named dir new ≡ Some m
lost_named dir None new m e = absurd (let no : ⊥ = cc in no)
lost_named dir (Some place) new m e = by (slice_get dir.names place) e
  where
    by : (o : Option (List ℕ)) → at_place dir.numbers (loser_in dir.names o new) ≡ Some m → number_named dir new ≡ Some m
    by None h = absurd (let no : ⊥ = cc in no)
    by (Some old) h = which (bytes_eq old new) h
      where
        which : (b : Bool) → at_place dir.numbers (if b then None else position (λ other. bytes_eq other new) dir.names) ≡ Some m → number_named dir new ≡ Some m
        which true g = absurd (let no : ⊥ = cc in no)
        which false g = g

loser_off : (dir : Directory) (o : Option ℕ) (new : List ℕ) (n : ℕ) (bytes : Option (List ℕ)) → is_among (carrier.File n) (loser_carriers (number_named dir new)) ≡ false
    → without_number (lost_number dir o new) n bytes ≡ bytes
loser_off dir o new n bytes h = by (lost_number dir o new) refl
  where
    by : (l : Option ℕ) → lost_number dir o new ≡ l → without_number l n bytes ≡ bytes
    by None is = refl
    by (Some m) is =
        let not_it : is_among (carrier.File n) (carrier.File m ∷ []) ≡ false = subst (λ (p : Option ℕ). is_among (carrier.File n) (loser_carriers p) ≡ false) (lost_named dir o new m is) h in
        off_if n m None bytes (off_first n m [] not_it)

-- ---- one of steps of pipes alone
steps_kept : (s : SyncState) (steps : List PipeStep) (writes : List Carrier) → ((k : ℕ) → is_among (carrier.Pipe k) writes ≡ false → AllByRecursion (IsOff k) steps)
    → AllByRecursion IsOld steps → Kept s None None steps None writes
steps_kept s steps writes off old = record {
  files = λ n h. refl;
  names = λ h. refl;
  pipes = λ k h. steps_off steps s.pipes k (off k h);
  count = λ h. steps_length steps s.pipes old;
  tapes = λ k h. refl;
  child = tt;
}

steps_carried : (s t : SyncState) (steps : List PipeStep) → AllByRecursion IsOld steps → Carried s t None None steps None
steps_carried s t steps old = record {
  files = λ n a. a;
  names = λ a. a;
  pipes = λ k a. steps_same steps s.pipes t.pipes k old a;
  count = λ a. steps_length steps s.pipes old ∙ a ∙ sym (steps_length steps t.pipes old);
  tapes = λ k a. a;
  child = tt;
}

off_pipe : (j k : ℕ) → is_among (carrier.Pipe j) (carrier.Pipe k ∷ []) ≡ false → (j == k) ≡ false
off_pipe j k h = (or_parts (j == k) false h).0

off_tape : (j k : ℕ) → is_among (carrier.Tape j) (carrier.Tape k ∷ []) ≡ false → (j == k) ≡ false
off_tape j k h = (or_parts (j == k) false h).0

-- ---- the table
pub each_keeps : (s : SyncState) (ds : List (Option Descriptor)) (children : List ℕ) (r : Request) → AreNumbered s.files → OfEach (Keeps s) (shared s) ds children r
each_keeps s ds children r are = record {
  told = λ k reads writes. quiet_kept s writes;
  waits = λ reads writes. quiet_kept s writes;
  shown = λ t bytes. quiet_kept s [];
  filed = λ fd n file offset bytes is goes. edit_kept s (edit.Write file offset bytes) (carrier.File file ∷ []) are
      (λ m h. off_if m file (option_map (λ old. patched old offset bytes) (bytes_of s.files m)) (bytes_of s.files m) (off_first m file [] h)) (λ h. refl);
  put = λ fd n k bytes p is found room. steps_kept s (pipe_step.Put k _ ∷ []) (carrier.Pipe k ∷ []) (λ j h. (off_pipe j k h, tt)) (tt, tt);
  played = λ fd at n k tape is found. record {
    files = λ m h. refl;
    names = λ h. refl;
    pipes = λ j h. refl;
    count = λ h. refl;
    tapes = λ j h. tape_off s.tapes _ j (off_tape j k h);
    child = tt;
  };
  copied = λ fd at n file offset f is stands found. quiet_kept s [];
  taken = λ fd at n k p is found. steps_kept s (pipe_step.Take k _ ∷ []) (carrier.Pipe k ∷ []) (λ j h. (off_pipe j k h, tt)) (tt, tt);
  there = λ fd file name writes free found. quiet_kept s [];
  emptied = λ fd file name free found. edit_kept s (edit.Empty file) (carrier.File file ∷ []) are
      (λ m h. off_if m file (option_map (λ old. []) (bytes_of s.files m)) (bytes_of s.files m) (off_first m file [] h)) (λ h. refl);
  made = λ fd n mode name is free new. edit_kept s (edit.Create name) (carrier.Names ∷ carrier.File s.files.made ∷ []) are
      (λ m h. off_if m s.files.made (Some []) (bytes_of s.files m) (off_first m s.files.made [] h)) (λ h. absurd (false≢true (sym h)));
  unlinked = λ file n name is found. edit_kept s (edit.Remove file) (carrier.Names ∷ carrier.File file ∷ []) are
      (λ m h. off_if m file None (bytes_of s.files m) (off_first m file [] h)) (λ h. absurd (false≢true (sym h)));
  renamed = λ file n m names is new. edit_kept s (edit.Rename file (drop n names)) (carrier.Names ∷ carrier.File file ∷ loser_carriers (number_named (directory s.files) (drop n names))) are
      (λ k h. loser_off (directory s.files) (place_in (directory s.files) file) (drop n names) k (bytes_of s.files k)
      (or_parts (k == file) (is_among (carrier.File k) (loser_carriers (number_named (directory s.files) (drop n names)))) h).1) (λ h. absurd (false≢true (sym h)));
  loaded = λ file n name f is named found good. quiet_kept s [];
  closed = λ fd d stands. steps_kept s (map pipe_step.Drop (ends_of (Some d ∷ []))) (map carrier_of (ends_of (Some d ∷ []))) (λ k h. drops_off (ends_of (Some d ∷ [])) k h) (drops_old (ends_of (Some d ∷ [])));
  moved = λ fd file old offset writes stands. quiet_kept s [];
  piped = λ at reader writer is free next room. record {
    files = λ m h. refl;
    names = λ h. refl;
    pipes = λ j h. open_off s.pipes j (off_pipe j (length s.pipes) h);
    count = λ h. absurd (false≢true (sym h));
    tapes = λ j h. refl;
    child = tt;
  };
  forked = λ room. record {
    files = λ m h. refl;
    names = λ h. refl;
    pipes = λ j h. steps_off (map pipe_step.Add (ends_of ds)) s.pipes j (adds_off (ends_of ds) j h);
    count = λ h. steps_length (map pipe_step.Add (ends_of ds)) s.pipes (adds_old (ends_of ds));
    tapes = λ j h. refl;
    child = (
      ap (λ (n : ℕ). n + 1) (length-map s.processes (λ (p : Process). p.status)),
      refl,
      or_left (length (shared s).statuses + 1 == length (shared s).statuses + 1) _ (eq-eqb (length (shared s).statuses + 1) (length (shared s).statuses + 1) refl),
    );
  };
  collected = λ at e is found. quiet_kept s [];
  ended = λ status. steps_kept s (map pipe_step.Drop (ends_of ds)) (map carrier_of (ends_of ds)) (λ k h. drops_off (ends_of ds) k h) (drops_old (ends_of ds));
}

pub each_carries : (s t : SyncState) (ds : List (Option Descriptor)) (children : List ℕ) (r : Request) → AreNumbered s.files → AreNumbered t.files
    → OfEach (Carries s t) (shared s) ds children r
each_carries s t ds children r are too = record {
  told = λ k reads writes a. quiet_carried s t;
  waits = λ reads writes a. quiet_carried s t;
  shown = λ k bytes a. quiet_carried s t;
  filed = λ fd n file offset bytes is goes a. edit_carried s t (edit.Write file offset bytes) are too (λ m o. refl);
  put = λ fd n k bytes p is found room a. steps_carried s t (pipe_step.Put k _ ∷ []) (tt, tt);
  played = λ fd at n k tape is found a. record {
    files = λ m b. b;
    names = λ b. b;
    pipes = λ j b. b;
    count = λ b. b;
    tapes = λ j b. tape_same s.tapes t.tapes _ j b;
    child = tt;
  };
  copied = λ fd at n file offset f is stands found a. quiet_carried s t;
  taken = λ fd at n k p is found a. steps_carried s t (pipe_step.Take k _ ∷ []) (tt, tt);
  there = λ fd file name writes free found a. quiet_carried s t;
  emptied = λ fd file name free found a. edit_carried s t (edit.Empty file) are too (λ m o. refl);
  made = λ fd n mode name is free new a. named_carried s t (edit.Create name) are too a.0;
  unlinked = λ file n name is found a. edit_carried s t (edit.Remove file) are too (λ m o. refl);
  renamed = λ file n m names is new a. named_carried s t (edit.Rename file (drop n names)) are too a.0;
  loaded = λ file n name f is named found good a. quiet_carried s t;
  closed = λ fd d stands a. steps_carried s t (map pipe_step.Drop (ends_of (Some d ∷ []))) (drops_old (ends_of (Some d ∷ [])));
  moved = λ fd file old offset writes stands a. quiet_carried s t;
  piped = λ at reader writer is free next room a. record {
    files = λ m b. b;
    names = λ b. b;
    pipes = λ j b. open_same s.pipes t.pipes j a.0 b;
    count = λ b. open_length s.pipes ∙ ap (λ (n : ℕ). n + 1) b ∙ sym (open_length t.pipes);
    tapes = λ j b. b;
    child = tt;
  };
  forked = λ room a. record {
    files = λ m b. b;
    names = λ b. b;
    pipes = λ j b. steps_same (map pipe_step.Add (ends_of ds)) s.pipes t.pipes j (adds_old (ends_of ds)) b;
    count = λ b. steps_length (map pipe_step.Add (ends_of ds)) s.pipes (adds_old (ends_of ds)) ∙ b ∙ sym (steps_length (map pipe_step.Add (ends_of ds)) t.pipes (adds_old (ends_of ds)));
    tapes = λ j b. b;
    child = a.0;
  };
  collected = λ at e is found a. quiet_carried s t;
  ended = λ status a. steps_carried s t (map pipe_step.Drop (ends_of ds)) (drops_old (ends_of ds));
}

-- of what comes of a call or a trap
pub effect_keeps : (s : SyncState) (pid : ℕ) (p : Process) (stop : Option Stop) (e : CallEffect) → AreNumbered s.files → effect_at (shared s) pid p stop ≡ Some e → Keeps s e
effect_keeps s pid p stop e are is =
    subst (λ (o : Option CallEffect). IfSome o (Keeps s)) is (of_effect (Keeps s) (shared s) pid p stop (each_keeps s p.descriptors p.children (request_of p.state) are))

pub effect_carries : (s t : SyncState) (pid : ℕ) (p : Process) (stop : Option Stop) (e : CallEffect) → AreNumbered s.files → AreNumbered t.files
    → effect_at (shared s) pid p stop ≡ Some e → Carries s t e
effect_carries s t pid p stop e are too is =
    subst (λ (o : Option CallEffect). IfSome o (Carries s t)) is (of_effect (Carries s t) (shared s) pid p stop (each_carries s t p.descriptors p.children (request_of p.state) are too))
