-- The number that the pipes have of an end is the count of its descriptors, through each event.
use Rattle.std.proofs.Common.{sym, ap, ◌∙◌}
use Rattle.kernel_model.specs.declared.descriptor.PipeEnd.TheVariants.{Read, Write}
use Rattle.kernel_model.proofs.Ends.{of_pipe}
use Rattle.kernel_model.proofs.EndRuns.{run_counted}
use Rattle.kernel_model.proofs.laws.ends_are_counted.Goals as goal

pub returns : goal.returns
returns _ = record {
  readers = λ b es k p at. sym (ap (of_pipe (λ q. q.readers)) at) ∙ run_counted b es (Read k);
  writers = λ b es k p at. sym (ap (of_pipe (λ q. q.writers)) at) ∙ run_counted b es (Write k);
  others = λ b es k none. (
    sym (run_counted b es (Read k)) ∙ ap (of_pipe (λ q. q.readers)) none,
    sym (run_counted b es (Write k)) ∙ ap (of_pipe (λ q. q.writers)) none,
  );
}
