-- A core is over as its tasks are.
use Rattle.std.proofs.Common.{◌≡◌, ◌==◌, ◌&&◌, ℕ, sym, ap, ◌∙◌, List, Option, is_none}
use Rattle.kernel_step.specs.Lending.{next_fit}
use Rattle.kernel_step.specs.Tasks.{count_out}
use Rattle.kernel_step.specs.declared.task.Task.{Task}
use Rattle.kernel_step.proofs.Standings.{none-by, over-is}
use Rattle.kernel_step.proofs.running.Running.over.Goals as goal

pub returns-then-self-eq0 : goal.returns-then-self-eq0
returns-then-self-eq0 c = λ b h.
    let tasks : List Task = c.args.self.now.tasks.items in
    let none : c.args.self.now.out ≡ 0 = c.if-self-eq0.true in
    let out : count_out tasks ≡ 0 = sym h.out ∙ none in
    let next : c.is_none.result ≡ is_none (next_fit c.args.quantum c.args.self.now.system.served c.args.self.now.last_lent tasks) =
    none-by c.next_lendable.result c.is_none.result c.is_none.ensures ∙ ap (λ (o : Option ℕ). is_none o) c.next_lendable.ensures in
    next
    ∙ ap (λ (n : ℕ). n == 0 && is_none (next_fit c.args.quantum c.args.self.now.system.served c.args.self.now.last_lent tasks)) (sym out)
    ∙ sym (over-is b c.args.self.now.history.items tasks c.args.self.now.system c.args.self.now.last_lent c.args.quantum h.parts)
