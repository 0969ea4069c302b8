-- Part by part, up to the first that has a hit.
use Rattle.std.proofs.Common.{◌-◌, ◌*◌, ◌/◌, ap, ◌∙◌}
use Rattle.std.specs.Prelude.{Option}
use Rattle.std.specs.Option.{option_or}
use Rattle.debugger.specs.Hits.{last_below}
use Rattle.debugger.specs.declared.hits.Hit.{Hit}
use Rattle.debugger.proofs.Hitting.{is_last-hit, none-above, none-from}
use Rattle.debugger.proofs.debugger.Debugger.last_hit.Goals as goal

pub returns-then-hit-least-clause-last : goal.returns-then-hit-least-clause-last
returns-then-hit-least-clause-last c =
    none-above c.args.self.now c.args.least c.in-Some.hit
    (c.loop-end.invariant.same ∙ c.in_ok-hit.ensures.hit ∙ ap (λ (o : Option Hit). option_or o (last_below c.args.self.now (1024 * ((c.loop-end.end - 1) / 1024)))) c.in-Some.is)
    c.if-hit-least.true

pub returns-in-Some-clause-last : goal.returns-in-Some-clause-last
returns-in-Some-clause-last c =
    is_last-hit c.args.self.now c.args.least c.loop-end.end c.in-Some.hit c.loop-end.invariant.same
    (c.in_ok-hit.ensures.hit ∙ ap (λ (o : Option Hit). option_or o (last_below c.args.self.now (1024 * ((c.loop-end.end - 1) / 1024)))) c.in-Some.is)
    c.if-hit-least.false

pub returns-clause-last : goal.returns-clause-last
returns-clause-last c = none-from c.args.self.now c.args.least c.loop-end.end c.loop-end.invariant.same c.loop-end-test.false
