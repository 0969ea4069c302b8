-- What the core keeps, the recorder keeps.
use Rattle.std.proofs.Common.{◌≤◌, subst}
use Rattle.std.proofs.lemmas.Result.{IfErr-weaker}
use Rattle.recorder.specs.Recording.{GoesNoFurther, Grows, MayRefuse, Recording, loans_given}
use Rattle.recorder.proofs.Stopping.{goes-no-further}
use Rattle.recorder.proofs.recorder.Recorder.commit.Goals as goal

pub returns-clause-grows : goal.returns-clause-grows
returns-clause-grows c = subst (λ (r : Recording). Grows r.kernel c.commit.new.core) c.self.view_is c.commit.ensures.grows

pub returns-clause-few : goal.returns-clause-few
returns-clause-few c = subst (λ (r : Recording). loans_given c.commit.new.core ≤ loans_given r.kernel) c.self.view_is c.commit.ensures.few

pub returns-clause-refused : goal.returns-clause-refused
returns-clause-refused c =
    let now : Recording = record { kernel = c.commit.new.core; process = c.self.inside.process; taken = c.self.inside.taken } in
    IfErr-weaker c.commit.result (λ why. MayRefuse now.kernel why) (λ why. GoesNoFurther now why) (λ why may. goes-no-further now why may) c.commit.ensures.refused
