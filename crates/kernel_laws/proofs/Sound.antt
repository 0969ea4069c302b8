-- All along a run memories, tapes, pipes and files hold bytes, and each change is possible where it comes.
use Rattle.std.proofs.Common.{◌≡◌, ℕ, zero, suc, ◌+◌, ◌<◌, List, [], ◌∷◌, slice_get, Option, Some, None, IfSome, refl, subst}
use Rattle.std.specs.List.{AllByRecursion}
use Rattle.disk_model.specs.declared.change.Change.{Change}
use Rattle.disk_model.specs.Numbers.{Numbered}
use Rattle.disk_model.specs.Files.{IsMade, IsPossible}
use Rattle.disk_model.proofs.Lists.{each_get, each_set, each_append}
use Rattle.memory_model.specs.Access.{HoldsBytes}
use Rattle.machine_model.specs.States.{stopped_at}
use Rattle.kernel_model.specs.Bytes.{ProgramsHoldBytes, TapesHoldBytes}
use Rattle.kernel_model.specs.Limits.{KeepLimits}
use Rattle.kernel_model.specs.Rows.{CallEffect}
use Rattle.kernel_model.specs.State.{SyncState, PipeState, TapeState, Process, put_process, with_process, shared, changed_by, with_place, read_by, new_pipe, with_pipe, stepped, all_stepped}
use Rattle.kernel_model.specs.Steps.{Transition, change_by, after_run, after_reply, zero_reply, forked, after_end, after_effect, step}
use Rattle.kernel_model.specs.World.{BootProgram, Boot, processes_from, tapes_of, tape_count, first_world}
use Rattle.kernel_model.specs.declared.descriptor.PipeEnd.TheVariants.{Read, Write}
use Rattle.kernel_model.specs.declared.effect.PipeStep.{PipeStep}
use Rattle.kernel_model.specs.declared.effect.PipeStep.TheVariants.{Open, Put, Take, Add, Drop}
use Rattle.kernel_model.specs.declared.effect.TapeRead.{TapeRead}
use Rattle.kernel_model.specs.declared.event.Event.{Event}
use Rattle.kernel_model.specs.declared.request.Verdict.{Verdict}
use Rattle.kernel_model.specs.declared.request.Verdict.TheVariants.{Waits, Replies, Ends}
use Rattle.kernel_model.proofs.Transitions.{each_event, of_step}
use Rattle.kernel_model.proofs.Limits.{each_process, each_put, with_each}
use Rattle.kernel_laws.proofs.Bytes.{AreBytes, run_holds, replied_holds}
use Rattle.kernel_laws.proofs.DiskLaws.{DiskLaws}
use Rattle.kernel_laws.proofs.Possible.{TellsBytes, PutsBytes, PutBytes, PipeHoldsBytes, TapeHoldsBytes, IsReadable, IsSound, effect_sound}

-- the memory of the process holds bytes
abbrev pub IsFit : Process → Type 0
IsFit p = HoldsBytes p.state.architectural.memory

-- a state of which each memory does, with files that possible changes made, and pipes and tapes that hold bytes
pub record AreFit (s : SyncState) : Type 0 where
  pub made : IsMade s.files.living
  pub pipes : AllByRecursion PipeHoldsBytes s.pipes
  pub tapes : AllByRecursion TapeHoldsBytes s.tapes
  pub each : AllByRecursion IsFit s.processes

-- the files of a state that is fit are few, and hold bytes
readable : DiskLaws → (s : SyncState) → KeepLimits s → AreFit s → IsReadable (shared s)
readable laws s limits h = record {
  few = (laws.rebuilt s.files.living h.made).few;
  numbered = limits.numbered;
  files = laws.bytes s.files.living h.made;
  pipes = h.pipes;
  tapes = h.tapes;
}

-- ---- the files after a change that is possible
made_changed : DiskLaws → (files : Numbered) (o : Option Change) → IsMade files.living → IfSome o (IsPossible files.living) → IsMade (changed_by files o).living
made_changed laws files None made possible = made
made_changed laws files (Some c) made possible = laws.change files.living c made possible.0 possible.1

-- ---- the tapes after a read

placed_holds : (tapes : List TapeState) (t count : ℕ) (o : Option TapeState) → AllByRecursion TapeHoldsBytes tapes → slice_get tapes t ≡ o
    → AllByRecursion TapeHoldsBytes (with_place tapes t count o)
placed_holds tapes t count None h e = h
placed_holds tapes t count (Some tape) h e =
    each_set TapeHoldsBytes tapes t (record tape { place = tape.place + count }) (each_get TapeHoldsBytes tapes t tape h e) h

read_holds : (tapes : List TapeState) (o : Option TapeRead) → AllByRecursion TapeHoldsBytes tapes → AllByRecursion TapeHoldsBytes (read_by tapes o)
read_holds tapes None h = h
read_holds tapes (Some r) h = placed_holds tapes r.tape r.count (slice_get tapes r.tape) h refl

-- ---- the pipes after steps

pipe_holds : (pipes : List PipeState) (k : ℕ) (f : PipeState → PipeState) → ((p : PipeState) → PipeHoldsBytes p → PipeHoldsBytes (f p))
    → AllByRecursion PipeHoldsBytes pipes → AllByRecursion PipeHoldsBytes (with_pipe pipes k (slice_get pipes k) f)
pipe_holds pipes k f still h = with_each PipeHoldsBytes PipeHoldsBytes pipes k (slice_get pipes k) f (λ p holds. holds) (λ p _ holds. still p holds) refl h

step_holds : (pipes : List PipeState) (step : PipeStep) → PutsBytes step → AllByRecursion PipeHoldsBytes pipes → AllByRecursion PipeHoldsBytes (stepped pipes step)
step_holds pipes Open puts h = each_append PipeHoldsBytes pipes (new_pipe ∷ []) h (tt, tt)
step_holds pipes (Put k bytes) puts h = pipe_holds pipes k _ (λ p holds. each_append (λ (b : ℕ). b < 256) p.written bytes holds puts) h
step_holds pipes (Take k count) puts h = pipe_holds pipes k _ (λ p holds. holds) h
step_holds pipes (Add (Read k)) puts h = pipe_holds pipes k _ (λ p holds. holds) h
step_holds pipes (Add (Write k)) puts h = pipe_holds pipes k _ (λ p holds. holds) h
step_holds pipes (Drop (Read k)) puts h = pipe_holds pipes k _ (λ p holds. holds) h
step_holds pipes (Drop (Write k)) puts h = pipe_holds pipes k _ (λ p holds. holds) h

steps_hold : (steps : List PipeStep) (pipes : List PipeState) → PutBytes steps → AllByRecursion PipeHoldsBytes pipes → AllByRecursion PipeHoldsBytes (all_stepped pipes steps)
steps_hold [] pipes puts h = h
steps_hold (step ∷ steps) pipes puts h = steps_hold steps (stepped pipes step) puts.1 (step_holds pipes step puts.0 h)

-- ---- one event

-- the state after it is fit, and its change was possible
pub record GoesFit (s : SyncState) (t : Transition) : Type 0 where
  pub fit : AreFit t.state
  pub possible : IfSome t.entry.change (IsPossible s.files.living)

put_goes : (s : SyncState) (pid : ℕ) (p : Process) → AreFit s → IsFit p → AreFit (with_process s pid p)
put_goes s pid p h f = record { made = h.made; pipes = h.pipes; tapes = h.tapes; each = each_put IsFit s.processes pid p f h.each }

-- a process that is made has its parent's memory
forked_fit : (p : Process) (o : Option ℕ) → IsFit p → AllByRecursion IsFit (forked p o)
forked_fit p None f = tt
forked_fit p (Some child) f = (replied_holds p.state zero_reply (record { bytes = tt; image = tt }) f, tt)

effect_fit : DiskLaws → (s : SyncState) (pid : ℕ) (p : Process) (e : CallEffect) (v : Verdict) → AreFit s → IsFit p → IsSound s.files e → TellsBytes v
    → GoesFit s (after_effect s pid p e v)
effect_fit laws s pid p e Waits h f sound tells = record { fit = h; possible = tt }
effect_fit laws s pid p e (Replies r) h f sound tells = record {
  fit = record {
    made = made_changed laws s.files (change_by s.files e.edit) h.made sound.change;
    pipes = steps_hold e.pipes s.pipes sound.pipes h.pipes;
    tapes = read_holds s.tapes e.tape h.tapes;
    each = each_append IsFit (put_process s.processes pid (after_reply p e r)) (forked p e.child)
        (each_put IsFit s.processes pid (after_reply p e r) (replied_holds p.state r tells f) h.each) (forked_fit p e.child f);
  };
  possible = sound.change;
}
effect_fit laws s pid p e (Ends status) h f sound tells = record {
  fit = record {
    made = h.made;
    pipes = steps_hold e.pipes s.pipes sound.pipes h.pipes;
    tapes = h.tapes;
    each = each_put IsFit s.processes pid (after_end p status) f h.each;
  };
  possible = tt;
}

-- in a state that keeps its limits
pub step_fit : DiskLaws → (s : SyncState) (e : Event) → KeepLimits s → AreFit s → GoesFit s (step s e)
step_fit laws s e limits h = of_step (GoesFit s) s (record { fit = h; possible = tt })
    (λ pid. each_event (GoesFit s) s pid (record { fit = h; possible = tt })
    (λ n p at lives. record { fit = put_goes s pid (after_run n p) h (run_holds n p.state (each_process IsFit s.processes pid p h.each at)); possible = tt })
    (λ p f at lives is.
    let holds = each_process IsFit s.processes pid p h.each at in
    let sound = subst (λ (o : Option CallEffect). IfSome o (IsSound s.files)) is
    (effect_sound (shared s) pid p (stopped_at p.state) (readable laws s limits h) holds) in
    effect_fit laws s pid p f f.verdict h holds sound sound.verdict)) e

-- ---- before any event
processes_fit : (i : ℕ) (programs : List BootProgram) → AllByRecursion (λ (p : BootProgram). HoldsBytes p.state.architectural.memory) programs
    → AllByRecursion IsFit (processes_from i programs)
processes_fit i [] h = tt
processes_fit i (p ∷ programs) h = (h.0, processes_fit (i + 1) programs h.1)

tapes_hold : (n : ℕ) (tapes : List (List ℕ)) → AllByRecursion AreBytes tapes → AllByRecursion TapeHoldsBytes (tapes_of n tapes)
tapes_hold zero tapes h = tt
tapes_hold (suc n) [] h = (tt, tapes_hold n [] tt)
tapes_hold (suc n) (tape ∷ tapes) h = (h.0, tapes_hold n tapes h.1)

pub first_world_fit : (b : Boot) → IsMade b.files → ProgramsHoldBytes b → TapesHoldBytes b → AreFit (first_world b).sync
first_world_fit b made programs tapes = record {
  made = made;
  pipes = tt;
  tapes = tapes_hold tape_count b.tapes tapes;
  each = processes_fit 0 b.programs programs;
}
