-- Back to the last hit.
use Rattle.std.proofs.Common.{subst}
use Rattle.std.specs.Prelude.{Option}
use Rattle.debugger.specs.Hits.{IsLast}
use Rattle.debugger.specs.declared.hits.Hit.{Hit}
use Rattle.debugger.proofs.Hitting.{back-hit}
use Rattle.debugger.proofs.debugger.Debugger.back_to.Goals as goal

pub returns-in_ok-rewind-in-Some-clause-back : goal.returns-in_ok-rewind-in-Some-clause-back
returns-in_ok-rewind-in-Some-clause-back c =
    back-hit c.args.self.now c.rewind.new.self c.args.least c.in-Some.hit
    (subst (λ (o : Option Hit). IsLast c.args.self.now c.args.least o) c.in-Some.is c.in_ok-hit.ensures.last)
    c.in_ok-rewind-in-Some.ensures.back
