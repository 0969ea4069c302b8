-- Each part of the process is that of the copy.
use Rattle.kernel_step.proofs.task.Task.try_clone.Goals as goal

pub returns : goal.returns
returns c =
    (λ t. record {
      pid = c.args.self.now.pid;
      machine = c.in_ok-try_clone.ensures.state t;
      out = c.in_ok-try_clone.ensures.quantum t;
      items = c.in_ok-try_clone-2.ensures.items t;
      committed = c.in_ok-try_clone-2.ensures.committed t;
      waited = c.args.self.now.waited;
      loans = c.args.self.now.loans;
    })
