-- What slices hold, vectors hold.
use Rattle.std.proofs.Common.{◌≡◌, ℕ, subst, sym, ◌∙◌, List, length}
use Rattle.std.proofs.lemmas.List.{with_items_is}
use Rattle.kernel_step.specs.Advanced.{AreMoved, AreAdvanced}
use Rattle.held_output.specs.Withheld.{Withheld}
use Rattle.kernel_step.specs.declared.task.Task.{Task}
use Rattle.kernel_step.proofs.storing.release.Goals as goal

-- no more are committed
pub returns-then-committed-before-clause-tasks : goal.returns-then-committed-before-clause-tasks
returns-then-committed-before-clause-tasks c =
    subst (λ (n : ℕ). AreMoved n c.args.tasks.now.items c.args.tasks.now.items) (sym c.if-committed-before.true) c.requires.told

pub returns-then-committed-before-clause-screens : goal.returns-then-committed-before-clause-screens
returns-then-committed-before-clause-screens c =
    subst (λ (n : ℕ). AreAdvanced n c.args.screens.now.items c.args.screens.now.items) (sym c.if-committed-before.true) c.requires.written

-- more are
pub returns-clause-tasks : goal.returns-clause-tasks
returns-clause-tasks c =
    let size : length c.hand_all.new.tasks ≡ c.args.tasks.now.len = c.hand_all.ensures.count ∙ c.deref_mut-2.ensures.len in
    subst (λ (ts : List Task). AreMoved c.args.committed c.args.tasks.now.items ts) (sym (with_items_is c.args.tasks.now c.hand_all.new.tasks size))
    (subst (λ (ts : List Task). AreMoved c.args.committed ts c.hand_all.new.tasks) c.deref_mut-2.ensures.value c.hand_all.ensures)

pub returns-clause-screens : goal.returns-clause-screens
returns-clause-screens c =
    let size : length c.show_all.new.screens ≡ c.args.screens.now.len = c.show_all.ensures.count ∙ c.deref_mut.ensures.len in
    subst (λ (ss : List (Withheld ℕ)). AreAdvanced c.args.committed c.args.screens.now.items ss) (sym (with_items_is c.args.screens.now c.show_all.new.screens size))
    (subst (λ (ss : List (Withheld ℕ)). AreAdvanced c.args.committed ss c.show_all.new.screens) c.deref_mut.ensures.value c.show_all.ensures)
