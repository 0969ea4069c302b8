-- Where the core may refuse to go on, the recorder goes no further.
use Rattle.std.proofs.lemmas.Result.{IfErr-weaker}
use Rattle.recorder.specs.Recording.{GoesNoFurther, MayRefuse, Recording}
use Rattle.recorder.proofs.Stopping.{goes-no-further}
use Rattle.recorder.proofs.recorder.Recorder.run_next.Goals as goal

pub returns-clause-refused : goal.returns-clause-refused
returns-clause-refused c =
    let now : Recording = record { kernel = c.run_next.new.core; process = c.self.inside.process; taken = c.self.inside.taken } in
    IfErr-weaker c.run_next.result (λ why. MayRefuse now.kernel why) (λ why. GoesNoFurther now why) (λ why may. goes-no-further now why may) c.run_next.ensures.refused
