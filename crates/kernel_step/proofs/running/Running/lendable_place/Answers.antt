-- The task that was looked at is the one at this place.
use Rattle.std.proofs.Common.{List, sym, subst, ◌∙◌}
use Rattle.kernel_step.specs.Tests.{IsPlaceOf}
use Rattle.kernel_step.specs.declared.task.Task.{Task}
use Rattle.kernel_step.proofs.Lists.{get-there}
use Rattle.kernel_step.proofs.running.Running.lendable_place.Goals as goal

pub returns-then-is_lendable-clause-fit : goal.returns-then-is_lendable-clause-fit
returns-then-is_lendable-clause-fit c =
    let placed : IsPlaceOf c.args.self.now.tasks.items c.args.pid c.in_ok-place.place =
    subst (λ (ts : List Task). IsPlaceOf ts c.args.pid c.in_ok-place.place) c.deref.ensures.value c.in_ok-place.ensures in
    record {
      task = c.index.result.now;
      there = get-there c.args.self.now.tasks.items c.in_ok-place.place c.index.result.now placed.there c.index.ensures;
      fit = sym c.is_lendable.ensures ∙ c.if-is_lendable.true;
    }
