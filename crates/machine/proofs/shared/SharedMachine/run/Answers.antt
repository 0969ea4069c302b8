-- A machine that stands does no instruction.
use Rattle.std.proofs.Common.{◌≡◌, ◌<◌, sym, arith}
use Rattle.std.specs.Prelude.{Some}
use Rattle.machine_model.specs.States.{stopped_at}
use Rattle.machine.proofs.Limits.{reached_at-is_run, standing-run}
use Rattle.machine.proofs.shared.SharedMachine.run.Goals as goal

pub returns-in-Some-clause-run : goal.returns-in-Some-clause-run
returns-in-Some-clause-run c = standing-run c.args.max c.args.self.now c.in-Some.stop (omega (arith, c.if-max-gt0.true)) (sym c.in-Some.ensures)

pub returns-in-Some-clause-limit : goal.returns-in-Some-clause-limit
returns-in-Some-clause-limit c =
    (reached_at-is_run c.args.max c.args.self.now _ (standing-run c.args.max c.args.self.now c.in-Some.stop (omega (arith, c.if-max-gt0.true)) (sym c.in-Some.ensures))).limit
