-- The instructions are few.
use Rattle.kernel_step.proofs.Counting.{counted-most}
use Rattle.kernel_step.proofs.running.Running.ran.Goals as goal

pub returns-clause-few : goal.returns-clause-few
returns-clause-few c = λ b h. counted-most b c.args.self.now.history.items c.args.self.now.tasks.items c.args.self.now.system c.args.self.now.ran h.parts h.counted
