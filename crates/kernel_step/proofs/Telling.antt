-- A task that is told something, from its parts.
use Rattle.std.proofs.Common.{◌∙◌, ◌++◌, ℕ, List, Option, option_to_list, ap}
use Rattle.machine_model.specs.States.{State}
use Rattle.kernel_model.specs.Entries.{Item}
use Rattle.kernel_model.specs.declared.request.Verdict.{Verdict}
use Rattle.held_output.specs.Withheld.{Held, all_held}
use Rattle.kernel_step.specs.Entering.{item_of, machine_after, IsTold, IsSameTask}
use Rattle.kernel_step.specs.Waiting.{waited_after}
use Rattle.kernel_step.specs.declared.task.Task.{Task}

-- room in its trace is no matter
pub told-same : (verdict : Verdict) (mark before : ℕ) (t u v : Task) → IsSameTask t u → IsTold verdict mark before u v → IsTold verdict mark before t v
told-same verdict mark before t u v same h = record {
  pid = h.pid ∙ same.pid;
  machine = h.machine ∙ ap (λ (s : State). machine_after s verdict) same.machine;
  items = h.items ∙ ap (λ (hs : List (Held Item)). hs ++ all_held mark (option_to_list (item_of verdict))) same.trace.items;
  committed = h.committed ∙ same.trace.committed;
  waited = h.waited ∙ ap (λ (o : Option ℕ). waited_after verdict before o) same.waited;
  loans = h.loans ∙ same.loans;
  out = h.out ∙ same.out;
}
