-- A run that the limit did not stop stands where it stopped.
use Rattle.std.proofs.Common.{sym}
use Rattle.machine_model.specs.States.{reached_at}
use Rattle.machine.proofs.Limits.{reached_at-is_run}
use Rattle.kernel_step.specs.declared.loan.Done.{Done}
use Rattle.kernel_step.proofs.loan.Done.standing.Goals as goal

pub returns-in_default : goal.returns-in_default
returns-in_default c =
    let d : Done = c.args.self.now in
    sym ((reached_at-is_run d.quantum d.began.value (reached_at d.count d.machine d.stop) d.ran).standing (λ is. c.in_default.not-Limit is))
