-- Instructions of the machine alone.
use Rattle.std.proofs.Common.{List, ℕ, [], drop, length, ap, subst, sym, ◌∙◌}
use Rattle.std.proofs.lemmas.Bool.{eqb-true}
use Rattle.std.proofs.lemmas.List.{nil_from_length}
use Rattle.machine_model.specs.Stopping.{run_to}
use Rattle.machine_model.proofs.Stopping.{run_to-none}
use Rattle.debugger.specs.Coasts.{Coasted}
use Rattle.debugger.specs.Ways.{traced_at}
use Rattle.debugger.proofs.Unbroken.{run_to-coasted}
use Rattle.debugger.proofs.place.Place.coast.Goals as goal

pub returns-clause-coasted : goal.returns-clause-coasted
returns-clause-coasted c = λ replies.
    run_to-coasted c.args.stops.now c.args.max c.run_to.result.0 c.args.self.now.machine c.run_to.new.self c.run_to.result.1 (drop c.args.self.now.taken replies)
    (ap (run_to c.args.stops.now c.args.max) (sym c.prepare_stops.ensures) ∙ c.run_to.ensures.run) c.run_to.ensures.within

-- where it stops at no address it is a run
pub returns-then-is_empty-clause-coasted : goal.returns-then-is_empty-clause-coasted
returns-then-is_empty-clause-coasted c = λ replies.
    subst (λ (stops : List ℕ). Coasted stops c.args.max (traced_at replies c.args.self.now) (traced_at replies (record c.args.self.now { machine = c.run.new.self })))
    (sym (nil_from_length c.args.stops.now (eqb-true (length c.args.stops.now) 0 (sym c.is_empty.ensures ∙ c.if-is_empty.true))))
    (run_to-coasted [] c.args.max c.run.result.0 c.args.self.now.machine c.run.new.self c.run.result.1 (drop c.args.self.now.taken replies)
    (run_to-none c.args.max c.args.self.now.machine ∙ c.run.ensures.run) c.run.ensures.within)
