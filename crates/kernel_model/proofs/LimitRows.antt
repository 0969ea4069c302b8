-- Each row of the table of calls keeps the limits of the tables, and sets no descriptor for a file that is not there.
use Rattle.std.proofs.Common.{◌≡◌, ℕ, ◌+◌, ◌<◌, ◌≤◌, Bool, true, false, List, [], ◌∷◌, length, drop, Option, Some, None, IfSome, refl, sym, subst, arith}
use Rattle.std.specs.Prelude.{option_map}
use Rattle.std.proofs.lemmas.List.{length-drop, length-map}
use Rattle.disk_model.specs.declared.change.NamedFile.{NamedFile}
use Rattle.disk_model.specs.Numbers.{place_of}
use Rattle.memory_model.specs.Memory.{Memory}
use Rattle.machine_model.specs.declared.stop.Stop.{Stop}
use Rattle.kernel_model.specs.Requests.{request_of}
use Rattle.disk_model.specs.declared.change.Change.TheVariants as change
use Rattle.kernel_model.specs.Limits.{AreNumbered}
use Rattle.kernel_model.specs.Rows.{CallEffect, only, ends_of, descriptor_at, most_pipes}
use Rattle.kernel_model.specs.State.{Process, Shared, PipeState, changed_by, all_stepped}
use Rattle.kernel_model.specs.Steps.{change_by, effect_at}
use Rattle.kernel_model.specs.declared.descriptor.Descriptor.{Descriptor}
use Rattle.kernel_model.specs.declared.descriptor.Descriptor.TheVariants as descriptor
use Rattle.kernel_model.specs.declared.effect.FileEdit.TheVariants as edit
use Rattle.kernel_model.specs.declared.request.Request.{Request}
use Rattle.kernel_model.proofs.Asked.{IsAsked, asked_by}
use Rattle.kernel_model.proofs.Cases.{OfEach, of_effect}
use Rattle.kernel_model.proofs.ChildRows.{IsNoneOrNextProcess}
use Rattle.kernel_model.proofs.Limits.{IsThere, AreThere, SetThere, there_at, PipesStand, AreHeld, adds_stand, drops_stand, open_stands, put_stands, take_stands, LeavesFew}
use Rattle.kernel_model.proofs.Numbering.{made_grows}
use Rattle.kernel_model.proofs.Names.{named_made}

-- at most so many pipes, each of which holds no more than it may
pub record PipesFit (pipes : List PipeState) : Type 0 where
  pub few : length pipes ≤ most_pipes
  pub held : AreHeld pipes

fit : (count : ℕ) (pipes : List PipeState) → count ≤ most_pipes → PipesStand count pipes → PipesFit pipes
fit count pipes le h = record { few = omega (arith, h.count, le); held = h.held }

-- of what is made of a place, where there is one, the same holds as of each
mapped : {A B : Type 0} (P : B → Type 0) (f : A → B) (o : Option A) → ((a : A) → P (f a)) → IfSome (option_map f o) P
mapped P f None each = tt
mapped P f (Some a) each = each a

-- Below, what a call may look at, where its pipes keep their limits and its files are numbered, and how many tapes there are.
module _ (s : Shared) (tapes : ℕ) (before : PipesFit s.pipes) (numbered : AreNumbered s.files) where
  -- An effect leaves the pipes within their limits; the change that it makes leaves the files within theirs, the descriptors that
  -- it sets stand for what is then there, and the process that it makes is the next.
  pub record Keeps (e : CallEffect) : Type 0 where
    pub pipes : PipesFit (all_stepped s.pipes e.pipes)
    pub change : IfSome (change_by s.files e.edit) (LeavesFew s.files.living)
    pub slots : SetThere (changed_by s.files (change_by s.files e.edit)).made tapes e.slots
    pub child : IsNoneOrNextProcess (length s.statuses) e.child

  -- the effect changes no table
  abbrev IsStill : CallEffect → Type 0
  IsStill e = e ≡ record (only e.verdict) { reads = e.reads; writes = e.writes; output = e.output; tape = e.tape; collects = e.collects }

  still : (e : CallEffect) → IsStill e → Keeps e
  still e is = subst Keeps (sym is) (record { pipes = before; change = tt; slots = tt; child = tt })

  stand : PipesStand (length s.pipes) s.pipes
  stand = record { count = refl; held = before.held }

  -- Below, the caller's descriptors.
  module _ (ds : List (Option Descriptor)) (known : AreThere s.files.made tapes ds) where
    file_there : (fd file offset : ℕ) (writes : Bool) → descriptor_at ds fd ≡ Some (descriptor.File file offset writes) → file < s.files.made
    file_there fd file offset writes stands = subst (IsThere s.files.made tapes) stands (there_at s.files.made tapes ds fd known)

    each_keeps : (memory : Memory) (children : List ℕ) (r : Request) → IsAsked memory r → OfEach Keeps s ds children r
    each_keeps memory children r asked = record {
      told = λ _ _ _. still _ refl;
      waits = λ _ _. still _ refl;
      shown = λ _ _. still _ refl;
      filed = λ fd n file offset bytes is goes. record {
        pipes = before;
        change = mapped (LeavesFew s.files.living) (λ (place : ℕ). change.Write place offset bytes) (place_of s.files file) (λ _. goes.fits);
        slots = (omega (arith, file_there fd file offset true goes.stands, made_grows s.files (change_by s.files (Some (edit.Write file offset bytes)))), tt);
        child = tt;
      };
      put = λ fd n k bytes p is found room. record {
        pipes = fit (length s.pipes) _ before.few (put_stands (length s.pipes) s.pipes k bytes p found stand);
        change = tt;
        slots = tt;
        child = tt;
      };
      played = λ _ _ _ _ _ _ _. still _ refl;
      copied = λ fd at n file offset f is stands found. record { pipes = before; change = tt; slots = (file_there fd file offset false stands, tt); child = tt };
      taken = λ fd at n k p is found. record {
        pipes = fit (length s.pipes) _ before.few (take_stands (length s.pipes) s.pipes k n p found stand);
        change = tt;
        slots = tt;
        child = tt;
      };
      there = λ fd file name writes free found. record { pipes = before; change = tt; slots = (named_made s.files name file numbered found, tt); child = tt };
      emptied = λ fd file name free found. record {
        pipes = before;
        change = mapped (LeavesFew s.files.living) change.Empty (place_of s.files file) (λ _. tt);
        slots = (omega (arith, named_made s.files name file numbered found, made_grows s.files (change_by s.files (Some (edit.Empty file)))), tt);
        child = tt;
      };
      made = λ fd n mode name is free new.
          let size : length name ≡ n = (subst (IsAsked memory) is asked).0 in
          let count = length-map s.files.living (λ (f : NamedFile). f.name) in
          record {
            pipes = before;
            change = (omega (arith, new.some, size), omega (arith, new.most, size), omega (arith, new.room, count));
            slots = (omega arith, tt);
            child = tt;
          };
      unlinked = λ file n name is found. record {
        pipes = before;
        change = mapped (LeavesFew s.files.living) change.Remove (place_of s.files file) (λ _. tt);
        slots = tt;
        child = tt;
      };
      renamed = λ file n m names is new.
          let size : length names ≡ n + m = (subst (IsAsked memory) is asked).0 in
          let rest = length-drop n names in
          record {
            pipes = before;
            change = mapped (LeavesFew s.files.living) (λ (place : ℕ). change.Rename place (drop n names)) (place_of s.files file)
                (λ _. (omega (arith, size, rest, new.some), omega (arith, size, rest, new.most)));
            slots = tt;
            child = tt;
          };
      loaded = λ _ _ _ _ _ _ _ _. still _ refl;
      closed = λ fd d stands. record {
        pipes = fit (length s.pipes) _ before.few (drops_stand (length s.pipes) (ends_of (Some d ∷ [])) s.pipes stand);
        change = tt;
        slots = (tt, tt);
        child = tt;
      };
      moved = λ fd file old offset writes stands. record { pipes = before; change = tt; slots = (file_there fd file old writes stands, tt); child = tt };
      piped = λ at reader writer is free next few. record {
        pipes = fit (length s.pipes + 1) _ (omega (arith, few)) (open_stands (length s.pipes) s.pipes stand);
        change = tt;
        slots = (tt, (tt, tt));
        child = tt;
      };
      forked = λ few. record {
        pipes = fit (length s.pipes) _ before.few (adds_stand (length s.pipes) (ends_of ds) s.pipes stand);
        change = tt;
        slots = tt;
        child = (refl, few);
      };
      collected = λ _ _ _ _. still _ refl;
      ended = λ status. record {
        pipes = fit (length s.pipes) _ before.few (drops_stand (length s.pipes) (ends_of ds) s.pipes stand);
        change = tt;
        slots = tt;
        child = tt;
      };
    }

  -- what comes of a call or a trap keeps the limits
  pub effect_keeps : (pid : ℕ) (p : Process) (stop : Option Stop) → AreThere s.files.made tapes p.descriptors → IfSome (effect_at s pid p stop) Keeps
  effect_keeps pid p stop known =
      of_effect Keeps s pid p stop (each_keeps p.descriptors known p.state.architectural.memory p.children (request_of p.state) (asked_by p.state))
