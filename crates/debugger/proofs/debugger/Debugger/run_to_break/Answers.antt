use Rattle.std.proofs.Common.{◌≡◌, ℕ, List, sym, ap, subst, ◌∙◌, rules}
use Rattle.std.specs.Prelude.{IfSome, Option}
use Rattle.machine_model.specs.Stopping.{is_among}
use Rattle.debugger.specs.Coasts.{HasAll}
use Rattle.debugger.specs.Sessions.{Session}
use Rattle.debugger.specs.Stops.{least_from}
use Rattle.debugger.proofs.debugger.Debugger.run_to_break.Goals as goal

-- Without answers these would be proved too; with them, an edit that breaks one is refused sooner.
pub returns-in-Some-clause-stops : goal.returns-in-Some-clause-stops
returns-in-Some-clause-stops c = search rules

pub loop-self-init : goal.loop-self-init
loop-self-init c = search rules

-- the breakpoints are those of the begin
pub coast-requires-clause-all : goal.coast-requires-clause-all
coast-requires-clause-all c = λ a off.
    let same : c.go.new.self.breaks ≡ c.args.self.now.breaks = ap (λ (s : Session). s.breaks) c.in_ok-halt.ensures.advances.rest ∙ ap (λ (s : Session). s.breaks) c.loop-self.invariant.goes.passes.rest in
    let all : HasAll c.args.self.now.breaks c.in-Some-stops.stops.items = subst (λ o. IfSome o (λ stops. HasAll c.args.self.now.breaks stops.items)) c.in-Some-stops.is c.loop-self.invariant.all in
    ap (λ (breaks : List (Option ℕ)). least_from 0 breaks a) same ∙ all a (ap (λ (stops : List ℕ). is_among stops a) (sym c.deref.ensures.value) ∙ off)
