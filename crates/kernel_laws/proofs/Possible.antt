-- The change that a row of the table of calls makes is possible where it comes, and what it tells and puts into pipes are bytes.
use Rattle.std.proofs.Common.{◌≡◌, ℕ, ◌+◌, ◌-◌, ◌<◌, ◌≤◌, ◌==◌, Bool, true, false, List, [], ◌∷◌, ◌++◌, length, map, take, drop, Option, Some, None, IfSome, refl, sym, ◌∙◌, subst, arith}
use Rattle.std.specs.Prelude.{if◌then◌else◌, option_map}
use Rattle.std.specs.Int.{w32, to_le_bytes}
use Rattle.std.specs.List.{AllByRecursion}
use Rattle.std.proofs.lemmas.List.{length-drop, length-map}
use Rattle.std.proofs.lemmas.List.Elements.{recursion_from_All}
use Rattle.disk_model.specs.Files.{FileHoldsBytes, FilesHoldBytes, IsPossible}
use Rattle.disk_model.specs.Limits.{most_files}
use Rattle.disk_model.specs.Numbers.{Numbered, place_of}
use Rattle.disk_model.specs.declared.change.Change.{Change}
use Rattle.disk_model.specs.declared.change.Change.TheVariants as change
use Rattle.disk_model.specs.declared.change.NamedFile.{NamedFile}
use Rattle.disk_model.proofs.Lists.{each_get, each_append, each_take, each_drop}
use Rattle.memory_model.specs.Access.{HoldsBytes}
use Rattle.memory_model.specs.Memory.{Memory}
use Rattle.machine_model.specs.declared.image.Segment.{Segment}
use Rattle.machine_model.specs.declared.stop.Stop.{Stop}
use Rattle.kernel_model.specs.Requests.{request_of}
use Rattle.kernel_model.specs.Rows.{CallEffect, number, with_bytes as placed, ends_of, pipe_size}
use Rattle.kernel_model.specs.State.{Process, Shared, PipeState, TapeState, unread}
use Rattle.kernel_model.specs.Limits.{AreNumbered}
use Rattle.kernel_model.specs.Steps.{change_by, effect_at}
use Rattle.kernel_model.specs.declared.descriptor.Descriptor.{Descriptor}
use Rattle.kernel_model.specs.declared.descriptor.PipeEnd.{PipeEnd}
use Rattle.kernel_model.specs.declared.effect.PipeStep.{PipeStep}
use Rattle.kernel_model.specs.declared.effect.PipeStep.TheVariants as pipe_step
use Rattle.kernel_model.specs.declared.request.Request.{Request}
use Rattle.kernel_model.specs.declared.request.Verdict.{Verdict}
use Rattle.kernel_model.specs.declared.request.Verdict.TheVariants.{Waits, Replies, Ends}
use Rattle.kernel_model.proofs.Asked.{IsAsked, asked_by}
use Rattle.kernel_model.proofs.Cases.{OfEach, of_effect}
use Rattle.disk_model.proofs.Naming.{differs}
use Rattle.kernel_model.proofs.Names.{at_some, name_bytes, name_new, number_has_name, place_there}
use Rattle.image_model.proofs.Contents.{program_bytes}
use Rattle.kernel_laws.proofs.Bytes.{AreBytes, CarriesBytes}

-- ---- what calls look at

-- the tape holds bytes
abbrev pub TapeHoldsBytes : TapeState → Type 0
TapeHoldsBytes tape = AreBytes tape.bytes

-- all bytes ever written to the pipe are bytes
abbrev pub PipeHoldsBytes : PipeState → Type 0
PipeHoldsBytes p = AreBytes p.written

-- there are few files, which are numbered, and files, pipes and tapes hold bytes
pub record IsReadable (s : Shared) : Type 0 where
  pub few : length s.files.living ≤ most_files
  pub numbered : AreNumbered s.files
  pub files : FilesHoldBytes s.files.living
  pub pipes : AllByRecursion PipeHoldsBytes s.pipes
  pub tapes : AllByRecursion TapeHoldsBytes s.tapes

-- ---- effects

-- what the caller is told carries bytes alone, and an image of bytes
abbrev pub TellsBytes : Verdict → Type 0
TellsBytes Waits = Unit {0}
TellsBytes (Replies r) = CarriesBytes r
TellsBytes (Ends status) = Unit {0}

-- what a step puts into a pipe, if it puts anything, are bytes
abbrev pub PutsBytes : PipeStep → Type 0
PutsBytes pipe_step.Open = Unit {0}
PutsBytes (pipe_step.Put k bytes) = AreBytes bytes
PutsBytes (pipe_step.Take k count) = Unit {0}
PutsBytes (pipe_step.Add end) = Unit {0}
PutsBytes (pipe_step.Drop end) = Unit {0}

abbrev pub PutBytes : List PipeStep → Type 0
PutBytes steps = AllByRecursion PutsBytes steps

-- The change is possible, and what is told and what is put into pipes are bytes.
pub record IsSound (files : Numbered) (e : CallEffect) : Type 0 where
  pub change : IfSome (change_by files e.edit) (IsPossible files.living)
  pub verdict : TellsBytes e.verdict
  pub pipes : PutBytes e.pipes

-- ends that are given up put nothing
drops_put : (ends : List PipeEnd) → PutBytes (map pipe_step.Drop ends)
drops_put [] = tt
drops_put (end ∷ ends) = (tt, drops_put ends)

-- nor do ends for which one more descriptor stands
adds_put : (ends : List PipeEnd) → PutBytes (map pipe_step.Add ends)
adds_put [] = tt
adds_put (end ∷ ends) = (tt, adds_put ends)

-- a number is told without bytes
number_told : (n : ℕ) → TellsBytes (number n)
number_told n = record { bytes = tt; image = tt }

-- bytes that are told for a place are bytes
placed_told : (n at : ℕ) (bytes : List ℕ) → AreBytes bytes → TellsBytes (placed n at bytes)
placed_told n at [] are = number_told n
placed_told n at (b ∷ bytes) are = record { bytes = are; image = tt }

-- the bytes of a word
word_bytes : (word : ℕ) → AreBytes (to_le_bytes w32 word)
word_bytes word = (omega arith, (omega arith, (omega arith, (omega arith, tt))))

-- a child's number, with its status for a place that may be none
status_told : (b : Bool) (child at status : ℕ) → TellsBytes (if b then number child else placed child at (to_le_bytes w32 status))
status_told true child at status = number_told child
status_told false child at status = placed_told child at (to_le_bytes w32 status) (word_bytes status)

-- at most n of these bytes, from a place on, for a place
some_told : (n place at : ℕ) (bytes : List ℕ) → AreBytes bytes → TellsBytes (placed (length (take n (drop place bytes))) at (take n (drop place bytes)))
some_told n place at bytes are =
    placed_told (length (take n (drop place bytes))) at (take n (drop place bytes))
    (each_take (λ (b : ℕ). b < 256) n (drop place bytes) (each_drop (λ (b : ℕ). b < 256) place bytes are))

-- ---- rows

-- a change of a file that lives, by its place
at_its_place : (files : Numbered) (P : Change → Type 0) (f : ℕ → Change) (number : ℕ) → ((place : ℕ) → place_of files number ≡ Some place → P (f place))
    → IfSome (option_map f (place_of files number)) P
at_its_place files P f number each = go (place_of files number) refl
  where
    go : (o : Option ℕ) → place_of files number ≡ o → IfSome (option_map f o) P
    go None is = tt
    go (Some place) is = each place is

-- Below, what a call may look at, a machine's memory, and its caller's descriptors.
module _ (s : Shared) (ready : IsReadable s) (memory : Memory) (holds : HoldsBytes memory) (ds : List (Option Descriptor)) where
  -- the place of a file that lives
  within : (number place : ℕ) → place_of s.files number ≡ Some place → place < length s.files.living
  within number place is = omega (arith, (place_there s.files number place is).0, ready.numbered.each)

  each_sound : (children : List ℕ) (r : Request) → IsAsked memory r → OfEach (IsSound s.files) s ds children r
  each_sound children r asked = record {
    told = λ k _ _. record { change = tt; verdict = number_told k; pipes = tt };
    waits = λ _ _. record { change = tt; verdict = tt; pipes = tt };
    shown = λ t bytes. record { change = tt; verdict = number_told (length bytes); pipes = tt };
    filed = λ fd n file offset bytes is goes.
        let read = subst (IsAsked memory) is asked in
        record {
          change = at_its_place s.files (IsPossible s.files.living) (λ (place : ℕ). change.Write place offset bytes) file (λ place at.
              let there = within file place at in (
                (omega (arith, ready.few, there), omega (arith, goes.fits), omega (arith, read.0, goes.some), omega (arith, read.0, goes.most), read.1 holds),
                (there, goes.fits),
              ));
          verdict = number_told (length bytes);
          pipes = tt;
        };
    put = λ fd n k bytes p is found room.
        let read = subst (IsAsked memory) is asked in
        record { change = tt; verdict = number_told _; pipes = (each_take (λ (b : ℕ). b < 256) (pipe_size - length (unread p)) bytes (read.1 holds), tt) };
    played = λ fd at n t tape is found. record {
      change = tt;
      verdict = some_told n tape.place at tape.bytes (each_get TapeHoldsBytes s.tapes t tape ready.tapes found);
      pipes = tt;
    };
    copied = λ fd at n file offset f is stands found. record {
      change = tt;
      verdict = let place = at_some s.files.living (place_of s.files file) f found in
          some_told n offset at f.bytes (each_get FileHoldsBytes s.files.living place.0 f ready.files place.2).1;
      pipes = tt;
    };
    taken = λ fd at n k p is found. record {
      change = tt;
      verdict = some_told n p.taken at p.written (each_get PipeHoldsBytes s.pipes k p ready.pipes found);
      pipes = (tt, tt);
    };
    there = λ fd _ _ _ _ _. record { change = tt; verdict = number_told fd; pipes = tt };
    emptied = λ fd file name free found.
        record {
          change = at_its_place s.files (IsPossible s.files.living) change.Empty file
              (λ place at. let there = within file place at in (omega (arith, ready.few, there), there));
          verdict = number_told fd;
          pipes = tt;
        };
    made = λ fd n mode name is free new.
        let size : length name ≡ n = (subst (IsAsked memory) is asked).0 in
        let count = length-map s.files.living (λ (f : NamedFile). f.name) in
        record {
          change = (
            (omega (arith, new.some, size), omega (arith, new.most, size), name_bytes name new.good),
            (name_new s.files name ready.numbered.each new.new, omega (arith, new.room, count)),
          );
          verdict = number_told fd;
          pipes = tt;
        };
    unlinked = λ file n name is found. record {
      change = at_its_place s.files (IsPossible s.files.living) change.Remove file
          (λ place at. let there = within file place at in (omega (arith, ready.few, there), there));
      verdict = number_told 0;
      pipes = tt;
    };
    renamed = λ file n m names is new.
        let size : length names ≡ n + m = (subst (IsAsked memory) is asked).0 in
        let rest = length-drop n names in
        record {
          change = at_its_place s.files (IsPossible s.files.living) (λ (place : ℕ). change.Rename place (drop n names)) file (λ place at.
              let there = within file place at in (
                (omega (arith, ready.few, there), (omega (arith, size, rest, new.some), omega (arith, size, rest, new.most), name_bytes (drop n names) new.good)),
                (
                  there,
                  (λ f is_there same.
                      differs (take n names) (drop n names) new.differs (sym (number_has_name s.files (take n names) file place f ready.numbered new.named at is_there) ∙ same)),
                ),
              ));
          verdict = number_told 0;
          pipes = tt;
        };
    loaded = λ file n name f is named found good. record {
      change = tt;
      verdict = let place = at_some s.files.living (place_of s.files file) f found in
          let bytes = (each_get FileHoldsBytes s.files.living place.0 f ready.files place.2).1 in
          record { bytes = tt; image = recursion_from_All (λ (s : Segment). AreBytes s.bytes) _ (program_bytes f.bytes bytes) };
      pipes = tt;
    };
    closed = λ fd d stands. record { change = tt; verdict = number_told 0; pipes = drops_put (ends_of (Some d ∷ [])) };
    moved = λ _ _ _ offset _ _. record { change = tt; verdict = number_told offset; pipes = tt };
    piped = λ at reader writer is free next few. record {
      change = tt;
      verdict = placed_told 0 at (to_le_bytes w32 reader ++ to_le_bytes w32 writer)
          (each_append (λ (b : ℕ). b < 256) (to_le_bytes w32 reader) (to_le_bytes w32 writer) (word_bytes reader) (word_bytes writer));
      pipes = (tt, tt);
    };
    forked = λ few. record { change = tt; verdict = number_told _; pipes = adds_put (ends_of ds) };
    collected = λ at e is found. record { change = tt; verdict = status_told (at == 0) e.child at e.status; pipes = tt };
    ended = λ status. record { change = tt; verdict = tt; pipes = drops_put (ends_of ds) };
  }

-- what comes of a call or a trap is sound
pub effect_sound : (s : Shared) (pid : ℕ) (p : Process) (stop : Option Stop) → IsReadable s
    → HoldsBytes p.state.architectural.memory → IfSome (effect_at s pid p stop) (IsSound s.files)
effect_sound s pid p stop ready holds =
    of_effect (IsSound s.files) s pid p stop
    (each_sound s ready p.state.architectural.memory holds p.descriptors p.children (request_of p.state) (asked_by p.state))
