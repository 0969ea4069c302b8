-- What holds of every row's edits, and of what it tells.
use Rattle.std.proofs.Common.{◌≡◌, ℕ, ◌+◌, ◌-◌, ◌^◌, ◌<◌, ◌≤◌, ◌==◌, inl, inr, Bool, true, false, List, [], ◌∷◌, ◌++◌, length, map, take, drop, slice_get, Option, Some, None, IfSome, refl, sym, ap, ◌∙◌, subst, arith, length-take}
use Rattle.std.specs.Prelude.{if◌then◌else◌, option_map}
use Rattle.std.specs.Int.{w32, to_le_bytes}
use Rattle.std.specs.List.{AllByRecursion}
use Rattle.std.specs.Option.{ForSome}
use Rattle.std.proofs.lemmas.List.{length-drop, length-map}
use Rattle.std.proofs.lemmas.Option.{slice_get-map}
use Rattle.disk_model.specs.Files.{IsPossible}
use Rattle.disk_model.specs.Limits.{most_files}
use Rattle.disk_model.specs.declared.change.Change.{Change}
use Rattle.disk_model.specs.declared.change.Change.TheVariants as change
use Rattle.disk_model.specs.declared.change.NamedFile.{NamedFile}
use Rattle.disk_model.specs.Numbers.{Numbered, place_of}
use Rattle.memory_model.specs.Access.{is_writable}
use Rattle.memory_model.specs.Memory.{Memory}
use Rattle.kernel_model.specs.Rows.{CallEffect, number, with_bytes, row, pipe_size, directory, descriptor_at, ends_of}
use Rattle.kernel_model.specs.State.{TapeState, PipeState, unread, changed_by}
use Rattle.kernel_model.specs.Limits.{AreNumbered}
use Rattle.kernel_model.specs.Steps.{set_slots, change_of, change_by}
use Rattle.kernel_model.specs.declared.descriptor.Descriptor.{Descriptor}
use Rattle.kernel_model.specs.declared.descriptor.Descriptor.TheVariants as descriptor
use Rattle.kernel_model.specs.declared.effect.FileEdit.{FileEdit}
use Rattle.kernel_model.specs.declared.effect.FileEdit.TheVariants as edit
use Rattle.kernel_model.specs.declared.effect.PipeStep.{PipeStep}
use Rattle.kernel_model.specs.declared.effect.PipeStep.TheVariants as pipe_step
use Rattle.kernel_model.specs.declared.effect.Slot.{Slot}
use Rattle.kernel_model.specs.declared.effect.TapeRead.{TapeRead}
use Rattle.kernel_model.specs.declared.request.Request.{Request}
use Rattle.kernel_model.specs.declared.request.Request.TheVariants as request
use Rattle.kernel_model.specs.declared.request.Verdict.{Verdict}
use Rattle.kernel_model.specs.declared.request.Verdict.TheVariants.{Waits, Replies, Ends}
use Rattle.kernel_model.proofs.Asked.{IsAsked}
use Rattle.kernel_model.proofs.Cases.{GoesToFile, IsMadeNew, IsRenamed, of_row}
use Rattle.kernel_model.proofs.Limits.{each_slot}
use Rattle.disk_model.proofs.Naming.{differs}
use Rattle.kernel_model.proofs.Names.{name_bytes, name_new, named_made, number_has_name, place_there}
use Rattle.kernel_model.proofs.Numbering.{made_grows}
use Rattle.pipes.specs.Seen.{Seen}
use Rattle.calls.specs.Plans.{NamesFile, NamesFiles, MayAllStep, IsNext, CarriesBytes, AreLeft, AtMostOneEntry, OpensNone, OpensAlone, MayBePlaced}
use Rattle.calls.specs.Shares.{pipe_of, shared_of}
use Rattle.kernel_model.specs.Wholes.{IsWhole}
use Rattle.calls.proofs.Files.{NamesFiles-more, NamesFile-descriptor_at}
use Rattle.calls.proofs.Fitting.{bytes-placed}
use Rattle.calls.proofs.Stepping.{adds-open-none, drops-open-none, HasFew, adds-may, drops-may, length-ends_of}

-- what is kept when a call comes: how processes have ended, the files, what is seen of the pipes, the tapes, and the caller's
-- descriptors and children
pub record Kept : Type 0 where
  pub statuses : List (Option ℕ)
  pub files : Numbered
  pub seen : List Seen
  pub tapes : List TapeState
  pub descriptors : List (Option Descriptor)
  pub children : List ℕ

-- what is known of it
pub record IsFine (c : Kept) (r : Request) : Type 0 where
  pub few : length c.files.living ≤ most_files
  pub numbered : AreNumbered c.files
  pub named : NamesFiles c.files.made c.descriptors
  pub whole : IsWhole r

-- nothing changes but the pipes
pub record EditsLittle (e : CallEffect) : Type 0 where
  pub edit : e.edit ≡ None
  pub output : e.output ≡ None
  pub tape : e.tape ≡ None
  pub slots : e.slots ≡ []
  pub child : e.child ≡ None
  pub collects : e.collects ≡ None

-- where the caller waits nothing changes, and where it ends nothing but the pipes
abbrev pub EditsWhere : Verdict → CallEffect → Type 0
EditsWhere Waits e = EditsLittle e × (e.pipes ≡ [])
EditsWhere (Replies reply) e = Unit {0}
EditsWhere (Ends status) e = EditsLittle e

-- where it carries bytes, the change that makes an edit is possible
abbrev pub MayBeMade : Numbered → FileEdit → Type 0
MayBeMade files x = CarriesBytes x → IfSome (change_of files x) (IsPossible files.living)

-- how many files were made, after an edit
abbrev made_by : Numbered → Option FileEdit → ℕ
made_by files o = (changed_by files (change_by files o)).made

-- what holds of an effect of a request
pub record IsSound (c : Kept) (r : Request) (e : CallEffect) : Type 0 where
  pub one_entry : AtMostOneEntry e.slots e.child e.collects
  pub opens : OpensAlone e.pipes
  pub edits : EditsWhere e.verdict e
  pub possible : IfSome e.edit (MayBeMade c.files)
  pub named : AllByRecursion (λ (slot : Slot). NamesFile (made_by c.files e.edit) slot.holds) e.slots
  pub left : IfSome e.tape (AreLeft c.tapes)
  pub few : length c.descriptors ≤ 16 → length e.pipes ≤ 16
  pub steps : (n : ℕ) → n + length c.descriptors < 2 ^ 64 → AllByRecursion (HasFew n) c.seen → MayAllStep c.seen e.pipes
  pub child : IfSome e.child (IsNext (length c.statuses))
  pub placed : (memory : Memory) → IsAsked memory r → MayBePlaced memory e.verdict

set_alone : (slots : List Slot) → AtMostOneEntry slots None None
set_alone slots = record { slots_or_child = inr refl; slots_or_collects = inr refl; child_or_collects = inl refl }

child_alone : (child : Option ℕ) → AtMostOneEntry [] child None
child_alone child = record { slots_or_child = inl refl; slots_or_collects = inl refl; child_or_collects = inr refl }

collects_alone : (child : Option ℕ) → AtMostOneEntry [] None child
collects_alone child = record { slots_or_child = inl refl; slots_or_collects = inl refl; child_or_collects = inl refl }

-- an effect that leaves the pipes, makes no child, and collects none
still-sound : (c : Kept) (r : Request) (e : CallEffect) → e.pipes ≡ [] → e.child ≡ None → e.collects ≡ None
    → EditsWhere e.verdict e → IfSome e.edit (MayBeMade c.files)
    → AllByRecursion (λ (slot : Slot). NamesFile (made_by c.files e.edit) slot.holds) e.slots → IfSome e.tape (AreLeft c.tapes)
    → ((memory : Memory) → IsAsked memory r → MayBePlaced memory e.verdict) → IsSound c r e
still-sound c r e pipes child collects edits possible named left placed = record {
  one_entry = record { slots_or_child = inr child; slots_or_collects = inr collects; child_or_collects = inl child };
  opens = subst OpensAlone (sym pipes) (inr tt);
  edits = edits;
  possible = possible;
  named = named;
  left = left;
  few = λ _. omega (arith, ap (λ (steps : List PipeStep). length steps) pipes);
  steps = λ _ _ _. subst (MayAllStep c.seen) (sym pipes) tt;
  child = subst (λ (o : Option ℕ). IfSome o (IsNext (length c.statuses))) (sym child) tt;
  placed = placed;
}

-- an effect that takes these steps of the pipes, which open none, and makes no edit of a file
steps-sound : (c : Kept) (r : Request) (e : CallEffect) → e.edit ≡ None → e.tape ≡ None → e.child ≡ None → e.collects ≡ None
    → AllByRecursion OpensNone e.pipes → EditsWhere e.verdict e → AllByRecursion (λ (slot : Slot). NamesFile c.files.made slot.holds) e.slots
    → (length c.descriptors ≤ 16 → length e.pipes ≤ 16) → MayAllStep c.seen e.pipes
    → ((memory : Memory) → IsAsked memory r → MayBePlaced memory e.verdict) → IsSound c r e
steps-sound c r e edit tape child collects opens edits named few steps placed = record {
  one_entry = record { slots_or_child = inr child; slots_or_collects = inr collects; child_or_collects = inl child };
  opens = inr opens;
  edits = edits;
  possible = subst (λ (o : Option FileEdit). IfSome o (MayBeMade c.files)) (sym edit) tt;
  named = subst (λ (o : Option FileEdit). AllByRecursion (λ (slot : Slot). NamesFile (made_by c.files o) slot.holds) e.slots) (sym edit) named;
  left = subst (λ (o : Option TapeRead). IfSome o (AreLeft c.tapes)) (sym tape) tt;
  few = few;
  steps = λ _ _ _. steps;
  child = subst (λ (o : Option ℕ). IfSome o (IsNext (length c.statuses))) (sym child) tt;
  placed = placed;
}

-- ---- files and tapes

-- a descriptor that stands for a file names one that was made
still-there : (c : Kept) (r : Request) → IsFine c r → (fd file offset : ℕ) (writes : Bool)
    → descriptor_at c.descriptors fd ≡ Some (descriptor.File file offset writes) → file < c.files.made
still-there c r fine fd file offset writes stands =
    subst (NamesFile c.files.made) stands (NamesFile-descriptor_at c.files.made c.descriptors fd fine.named)

-- a change of a file that lives, by its place
at-its-place : (c : Kept) (r : Request) → IsFine c r → (f : ℕ → Change) (number : ℕ)
    → ((place : ℕ) → place < length c.files.living → place_of c.files number ≡ Some place → IsPossible c.files.living (f place))
    → IfSome (option_map f (place_of c.files number)) (IsPossible c.files.living)
at-its-place c r fine f number each = go (place_of c.files number) refl
  where
    go : (o : Option ℕ) → place_of c.files number ≡ o → IfSome (option_map f o) (IsPossible c.files.living)
    go None is = tt
    go (Some place) is = each place (omega (arith, (place_there c.files number place is).0, fine.numbered.each)) is

write-possible : (c : Kept) (r : Request) → IsFine c r → (fd n file offset : ℕ) (bytes : List ℕ) → r ≡ request.Write fd n (Some bytes)
    → GoesToFile c.files c.descriptors fd n file offset bytes → MayBeMade c.files (edit.Write file offset bytes)
write-possible c r fine fd n file offset bytes is goes carries =
    let whole = subst IsWhole is fine.whole in
    at-its-place c r fine (λ (place : ℕ). change.Write place offset bytes) file (λ place there _. (
      (omega (arith, fine.few, there), omega (arith, goes.fits), omega (arith, whole.0, goes.some), omega (arith, whole.0, goes.most), carries),
      (there, goes.fits),
    ))

create-possible : (c : Kept) (r : Request) → IsFine c r → (n mode : ℕ) (name : List ℕ) → r ≡ request.Open n mode (Some name)
    → IsMadeNew (directory c.files) n name → IsPossible c.files.living (change.Create name)
create-possible c r fine n mode name is new =
    let whole = subst IsWhole is fine.whole in (
      (omega (arith, whole.0, new.some), omega (arith, whole.0, new.most), name_bytes name new.good),
      (name_new c.files name fine.numbered.each new.new, omega (arith, new.room, length-map c.files.living (λ (f : NamedFile). f.name))),
    )

rename-possible : (c : Kept) (r : Request) → IsFine c r → (file n m : ℕ) (names : List ℕ) → r ≡ request.Rename n m (Some names)
    → IsRenamed (directory c.files) n m (take n names) (drop n names) file → MayBeMade c.files (edit.Rename file (drop n names))
rename-possible c r fine file n m names is new carries =
    let whole = subst IsWhole is fine.whole in
    let size : length (drop n names) ≡ m = omega (arith, whole.0, length-drop n names) in
    at-its-place c r fine (λ (place : ℕ). change.Rename place (drop n names)) file (λ place there at.
    let named : (f : NamedFile) → slice_get c.files.living place ≡ Some f → f.name ≡ take n names =
    λ f found. number_has_name c.files (take n names) file place f fine.numbered new.named at found in (
      (omega (arith, fine.few, there), (omega (arith, size, new.some), omega (arith, size, new.most), name_bytes (drop n names) new.good)),
      (there, (λ f found same. differs (take n names) (drop n names) new.differs (sym (named f found) ∙ same))),
    ))

taken-left : (tapes : List TapeState) (t n : ℕ) (tape : TapeState) → slice_get tapes t ≡ Some tape
    → AreLeft tapes (record { tape = t; count = length (take n (drop tape.place tape.bytes)) })
taken-left tapes t n tape found =
    let few : length (take n (drop tape.place tape.bytes)) ≤ length (drop tape.place tape.bytes) =
    omega (arith, length-take n (drop tape.place tape.bytes)) in
    subst (λ (o : Option TapeState). IfSome o (λ x. length (take n (drop tape.place tape.bytes)) ≤ length (drop x.place x.bytes))) (sym found) few

-- ---- what is told

told-edits : (n at : ℕ) (bytes : List ℕ) (e : CallEffect) → EditsWhere (with_bytes n at bytes) e
told-edits n at [] e = tt
told-edits n at (b ∷ bs) e = tt

part-placed : (memory : Memory) (at n : ℕ) (rest : List ℕ) → is_writable memory at n ≡ true → MayBePlaced memory (with_bytes (length (take n rest)) at (take n rest))
part-placed memory at n rest fits =
    let few : length (take n rest) ≤ n = omega (arith, length-take n rest) in
    bytes-placed memory (length (take n rest)) at n (take n rest) few fits

ended-edits : (b : Bool) (n at : ℕ) (bytes : List ℕ) (e : CallEffect) → EditsWhere (if b then number n else with_bytes n at bytes) e
ended-edits true n at bytes e = tt
ended-edits false n at bytes e = told-edits n at bytes e

ended-placed : (memory : Memory) (b : Bool) (n at : ℕ) (bytes : List ℕ) → length bytes ≤ 4 → (b ≡ false → is_writable memory at 4 ≡ true)
    → MayBePlaced memory (if b then number n else with_bytes n at bytes)
ended-placed memory true n at bytes few fits = refl
ended-placed memory false n at bytes few fits = bytes-placed memory n at 4 bytes few (fits refl)

-- ---- pipes

-- a pipe that stands in the list is what was seen at its place
seen-there : (seen : List Seen) (k : ℕ) (p : PipeState) → slice_get (map pipe_of seen) k ≡ Some p → (x : Seen) → slice_get seen k ≡ Some x → pipe_of x ≡ p
seen-there seen k p found x is =
    let same : Some (pipe_of x) ≡ Some p = sym (ap (option_map pipe_of) is) ∙ sym (slice_get-map pipe_of seen k) ∙ found in cc

put-fits : (seen : List Seen) (k : ℕ) (p : PipeState) (bytes : List ℕ) → slice_get (map pipe_of seen) k ≡ Some p → length (unread p) < 4096
    → ForSome (slice_get seen k) (λ x. length x.held + length (take (pipe_size - length (unread p)) bytes) ≤ pipe_size)
put-fits seen k p bytes found few x is =
    let same : length x.held ≡ length (unread p) = ap (λ (q : PipeState). length (unread q)) (seen-there seen k p found x is) in
    omega (arith, length-take (pipe_size - length (unread p)) bytes)

take-fits : (seen : List Seen) (k n : ℕ) (p : PipeState) → slice_get (map pipe_of seen) k ≡ Some p
    → ForSome (slice_get seen k) (λ x. length (take n (unread p)) ≤ length x.held)
take-fits seen k n p found x is =
    let same : length x.held ≡ length (unread p) = ap (λ (q : PipeState). length (unread q)) (seen-there seen k p found x is) in
    omega (arith, length-take n (unread p))

-- ---- every row

pub row-sound : (c : Kept) (p : ℕ) (r : Request) → IsFine c r → IsSound c r (row (shared_of c.statuses c.files c.seen c.tapes) p c.descriptors c.children r)
row-sound c p r fine = of_row (IsSound c r) (shared_of c.statuses c.files c.seen c.tapes) c.descriptors c.children r (record {
  told = λ _ _ _. still-sound c r _ refl refl refl tt tt tt tt (λ _ _. refl);
  waits = λ _ _. still-sound c r _ refl refl refl
      (record { edit = refl; output = refl; tape = refl; slots = refl; child = refl; collects = refl }, refl) tt tt tt (λ _ _. tt);
  shown = λ _ _. still-sound c r _ refl refl refl tt tt tt tt (λ _ _. refl);
  filed = λ fd n file offset bytes is goes. still-sound c r _ refl refl refl tt
      (write-possible c r fine fd n file offset bytes is goes)
      (omega (arith, still-there c r fine fd file offset true goes.stands, made_grows c.files (change_of c.files (edit.Write file offset bytes))), tt)
      tt (λ _ _. refl);
  put = λ fd n k bytes p is found few. steps-sound c r _ refl refl refl refl (tt, tt) tt tt (λ _. omega arith)
      (put-fits c.seen k p bytes found few, tt) (λ _ _. refl);
  played = λ fd at n t tape is found. still-sound c r _ refl refl refl (told-edits (length (take n (drop tape.place tape.bytes))) at (take n (drop tape.place tape.bytes)) _) tt tt
      (taken-left c.tapes t n tape found)
      (λ memory asked. part-placed memory at n (drop tape.place tape.bytes) (subst (IsAsked memory) is asked refl));
  copied = λ fd at n file offset f is stands found. still-sound c r _ refl refl refl (told-edits (length (take n (drop offset f.bytes))) at (take n (drop offset f.bytes)) _) tt
      (still-there c r fine fd file offset false stands, tt) tt
      (λ memory asked. part-placed memory at n (drop offset f.bytes) (subst (IsAsked memory) is asked refl));
  taken = λ fd at n k p is found. steps-sound c r _ refl refl refl refl (tt, tt) (told-edits (length (take n (unread p))) at (take n (unread p)) _) tt (λ _. omega arith)
      (take-fits c.seen k n p found, tt)
      (λ memory asked. part-placed memory at n (unread p) (subst (IsAsked memory) is asked refl));
  there = λ fd file name writes free found.
      still-sound c r _ refl refl refl tt tt (named_made c.files name file fine.numbered found, tt) tt (λ _ _. refl);
  emptied = λ fd file name free found.
      still-sound c r _ refl refl refl tt
      (λ _. at-its-place c r fine change.Empty file (λ place there _. (omega (arith, fine.few, there), there)))
      (omega (arith, named_made c.files name file fine.numbered found, made_grows c.files (change_of c.files (edit.Empty file))), tt)
      tt (λ _ _. refl);
  made = λ fd n mode name is free new. still-sound c r _ refl refl refl tt
      (λ _. create-possible c r fine n mode name is new)
      (omega arith, tt) tt (λ _ _. refl);
  unlinked = λ file n name is found. still-sound c r _ refl refl refl tt
      (λ _. at-its-place c r fine change.Remove file (λ place there _. (omega (arith, fine.few, there), there)))
      tt tt (λ _ _. refl);
  renamed = λ file n m names is new. still-sound c r _ refl refl refl tt (rename-possible c r fine file n m names is new) tt tt (λ _ _. refl);
  loaded = λ _ _ _ _ _ _ _ _. still-sound c r _ refl refl refl tt tt tt tt (λ _ _. refl);
  closed = λ fd d stands.
      let ends = ends_of (Some d ∷ []) in
      let one : length ends ≤ 1 = length-ends_of (Some d ∷ []) in
      steps-sound c r _ refl refl refl refl (drops-open-none ends) tt (tt, tt) (λ _. omega (arith, one, length-map ends pipe_step.Drop))
      (drops-may ends c.seen) (λ _ _. refl);
  moved = λ fd file old offset writes stands.
      still-sound c r _ refl refl refl tt tt (still-there c r fine fd file old writes stands, tt) tt (λ _ _. refl);
  piped = λ at reader writer is free next few. record {
    one_entry = set_alone _;
    opens = inl refl;
    edits = tt;
    possible = tt;
    named = (tt, (tt, tt));
    left = tt;
    few = λ _. omega arith;
    steps = λ _ _ _. (omega (arith, few, length-map c.seen pipe_of), tt);
    child = tt;
    placed = λ memory asked.
        bytes-placed memory 0 at 8 (to_le_bytes w32 reader ++ to_le_bytes w32 writer) (omega arith) (subst (IsAsked memory) is asked refl);
  };
  forked = λ few. record {
    one_entry = child_alone _;
    opens = inr (adds-open-none (ends_of c.descriptors));
    edits = tt;
    possible = tt;
    named = tt;
    left = tt;
    few = λ most. omega (arith, most, length-map (ends_of c.descriptors) pipe_step.Add, length-ends_of c.descriptors);
    steps = λ n lt all. adds-may n (ends_of c.descriptors) c.seen (omega (arith, lt, length-ends_of c.descriptors)) all;
    child = (refl, few);
    placed = λ _ _. refl;
  };
  collected = λ at e is found. record {
    one_entry = collects_alone _;
    opens = inr tt;
    edits = ended-edits (at == 0) e.child at (to_le_bytes w32 e.status) _;
    possible = tt;
    named = tt;
    left = tt;
    few = λ _. omega arith;
    steps = λ _ _ _. tt;
    child = tt;
    placed = λ memory asked. ended-placed memory (at == 0) e.child at (to_le_bytes w32 e.status) (omega arith) (subst (IsAsked memory) is asked refl);
  };
  ended = λ status. steps-sound c r _ refl refl refl refl (drops-open-none (ends_of c.descriptors))
      (record { edit = refl; output = refl; tape = refl; slots = refl; child = refl; collects = refl }) tt
      (λ few. omega (arith, few, length-map (ends_of c.descriptors) pipe_step.Drop, length-ends_of c.descriptors))
      (drops-may (ends_of c.descriptors) c.seen) (λ _ _. tt);
}) p

-- so after an effect each descriptor names a file that was made
pub named-after : (c : Kept) (r : Request) (e : CallEffect) → IsSound c r e → NamesFiles c.files.made c.descriptors
    → NamesFiles (changed_by c.files (change_by c.files e.edit)).made (set_slots c.descriptors e.slots)
named-after c r e sound names =
    each_slot (NamesFile (made_by c.files e.edit)) e.slots c.descriptors sound.named
    (NamesFiles-more c.files.made (made_by c.files e.edit) (made_grows c.files (change_by c.files e.edit)) c.descriptors names)
