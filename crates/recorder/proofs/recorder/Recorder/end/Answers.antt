-- A process has ended where its end is handed out.
use Rattle.std.proofs.Common.{IfSome, ◌≡◌, subst, sym}
use Rattle.kernel_model.specs.Answers.{now}
use Rattle.kernel_model.specs.Drains.{IsAllCommitted}
use Rattle.kernel_model.specs.Loans.{standing_of}
use Rattle.kernel_model.specs.declared.standing.Standing.TheVariants.{Ended}
use Rattle.recorder.specs.Recording.{Recording}
use Rattle.recorder.proofs.Stopping.{told-ended}
use Rattle.recorder.proofs.recorder.Recorder.end.Goals as goal

pub returns-in-Ok-clause-ended : goal.returns-in-Ok-clause-ended
returns-in-Ok-clause-ended c =
    let committed : IsAllCommitted (now c.self.inside.core) = subst (λ (r : Recording). IsAllCommitted (now r.kernel)) (sym c.self.view_is) c.requires.committed in
    subst (λ (r : Recording). IfSome c.in-Ok.status (λ status. standing_of r.kernel r.process ≡ Ended)) c.self.view_is
    (told-ended c.self.inside.core c.self.inside.process c.in-Ok.status
    (c.ends_are_handed_out.ensures c.self.inside.core c.self.inside.process committed c.in-Ok.ensures.there) c.in-Ok.ensures.status)
