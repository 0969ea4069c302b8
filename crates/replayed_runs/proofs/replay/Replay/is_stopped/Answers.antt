-- A process is there, or none is.
use Rattle.std.proofs.Common.{◌≡◌, ◌∙◌, Option, is_some, true, subst, sym}
use Rattle.machine_model.specs.declared.stop.Stop.{Stop}
use Rattle.replayed_runs.proofs.Standing.{stands_none, stands_stopped}
use Rattle.replayed_runs.proofs.replay.Replay.is_stopped.Goals as goal

pub returns-in-Ok : goal.returns-in-Ok
returns-in-Ok c = λ is.
    stands_stopped c.args.self.now.core c.args.pid c.in-Ok.machine.now c.in-Ok.ensures.machine
    (subst (λ (o : Option Stop). is_some o ≡ true) c.stopped.ensures (sym c.is_some.ensures ∙ is))

pub returns-in-Err : goal.returns-in-Err
returns-in-Err c = λ _. stands_none c.args.self.now.core c.args.pid c.in-Err.ensures.none.1
