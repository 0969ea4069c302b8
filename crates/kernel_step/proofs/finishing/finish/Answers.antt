-- Each part has changed as its function says.
use Rattle.std.proofs.Common.{◌++◌, ◌∙◌, ℕ, List, Option, option_to_list, ap, sym, subst}
use Rattle.disk_model.specs.declared.change.Change.{Change}
use Rattle.kernel_model.specs.declared.request.Verdict.{Verdict}
use Rattle.held_output.specs.Withheld.{Withheld}
use Rattle.kernel_step.specs.Entering.{ArePrinted}
use Rattle.kernel_step.specs.Ready.{TaskMayBeTold}
use Rattle.kernel_step.specs.declared.system.System.{System}
use Rattle.kernel_step.proofs.finishing.finish.Goals as goal

pub print-requires : goal.print-requires
print-requires c = c.requires.output

pub change_system-requires : goal.change_system-requires
change_system-requires c =
    let may = c.requires.system in
    record { processes = may.processes; left = may.left; spare = may.spare; may = may.may; few = may.few }

pub tell_child-requires : goal.tell_child-requires
tell_child-requires c = c.requires.child

pub tell-outcome-requires : goal.tell-outcome-requires
tell-outcome-requires c =
    subst (λ (verdict : Verdict). TaskMayBeTold verdict c.args.entering.next c.args.task.now)
    (sym c.into_verdict_and_change-verdict.ensures.verdict) c.requires.task

pub returns-clause-system : goal.returns-clause-system
returns-clause-system c =
    let same = c.change_system.ensures.system in
    record {
      marks = ap (λ (s : System). s.dependencies) same;
      footprints = ap (λ (s : System). s.footprints) same;
      changes =
          c.keep.ensures
          ∙ ap (λ (s : System). s.changes.items ++ option_to_list c.into_verdict_and_change-verdict.result.1) same
          ∙ ap (λ (change : Option Change). c.args.system.now.changes.items ++ option_to_list change) c.into_verdict_and_change-verdict.ensures.change;
      files = ap (λ (s : System). s.files) same;
      tapes = ap (λ (s : System). s.tapes) same;
      pipes = ap (λ (s : System). s.pipes) same;
      parts = c.change_system.ensures.parts;
      served = ap (λ (s : System). s.served) same;
      committer = ap (λ (s : System). s.committer) same;
      screens =
          subst (λ (ss : List (Withheld ℕ)). ArePrinted c.args.entering.plan.output c.args.mark c.args.system.now.screens.items ss)
          (sym (ap (λ (s : System). s.screens.items) same)) c.print.ensures;
    }
