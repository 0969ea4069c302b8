-- The parts before any event.
use Rattle.std.proofs.Common.{ap, sym, subst, ◌∙◌, ◌<◌, List, Vec, ℕ}
use Rattle.std.specs.List.{AllByRecursion}
use Rattle.kernel_model.specs.declared.event.Event.{Event}
use Rattle.kernel_step.specs.Booting.{boot_with}
use Rattle.kernel_step.specs.Counted.{IsCounted}
use Rattle.kernel_step.specs.Represents.{KeepsRun}
use Rattle.kernel_step.specs.declared.system.System.{System}
use Rattle.kernel_step.proofs.Counting.{first-counted}
use Rattle.kernel_step.proofs.Beginning.{first-core, first-out, lendings-first, programs-hold}
use Rattle.kernel_step.proofs.running.Running.new.Goals as goal

pub returns-clause-stands : goal.returns-clause-stands
returns-clause-stands c = λ disk gate begins.
    let s : System = record { alloc = c.args.alloc; dependencies = c.new-2.result; footprints = c.new-3.result; changes = c.new-4.result; files = c.args.files; tapes = c.new-5.result; pipes = c.in_ok-pipes.pipes; processes = c.in_ok-processes.processes; served = 0; screens = c.in_ok-screens.screens; committer = c.args.committer } in
    record {
      parts =
          subst (λ (es : List Event). KeepsRun (boot_with c.args.programs.now c.args.tapes.value.items c.args.files.living disk gate) es c.in_ok-tasks.tasks.items s) (sym c.new-6.ensures.items)
          (first-core c.args.programs.now c.args.tapes.value.items c.args.files.living disk gate c.in_ok-tasks.tasks.items s
          c.requires.made c.in_ok-tasks.ensures c.in_ok-screens.ensures
          c.new-2.ensures c.new-3.ensures c.new-4.ensures.items c.requires.numbered c.new-5.ensures c.in_ok-processes.ensures c.in_ok-pipes.ensures (cc) begins);
      counted =
          subst (λ (es : List Event). IsCounted (boot_with c.args.programs.now c.args.tapes.value.items c.args.files.living disk gate) es 0) (sym c.new-6.ensures.items)
          (first-counted c.args.programs.now c.args.tapes.value.items c.args.files.living disk gate c.requires.few);
      out = sym (first-out c.args.programs.now c.in_ok-tasks.tasks.items c.in_ok-tasks.ensures);
    }

pub returns-clause-lendings : goal.returns-clause-lendings
returns-clause-lendings c = λ b. lendings-first c.args.programs.now c.in_ok-tasks.tasks.items c.in_ok-tasks.ensures

pub returns-clause-bytes : goal.returns-clause-bytes
returns-clause-bytes c = λ disk gate. programs-hold c.args.programs.now c.in_ok-tasks.tasks.items c.in_ok-tasks.ensures

pub returns-clause-tapes : goal.returns-clause-tapes
returns-clause-tapes c = λ disk gate.
    subst (λ (tapes : List (List ℕ)). AllByRecursion (λ (tape : List ℕ). AllByRecursion (λ (byte : ℕ). byte < 256) tape) tapes)
    (c.deref-2.ensures.value ∙ ap (λ (v : Vec _ _). v.items) c.deref.ensures) c.hold_bytes.ensures
