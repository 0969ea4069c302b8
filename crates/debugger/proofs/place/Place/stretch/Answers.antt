-- Instructions of the machine, and a call that takes its reply.
use Rattle.std.proofs.Common.{drop, Some, refl, sym, ap, subst, ◌∙◌}
use Rattle.machine_model.specs.declared.stop.Stop.{Stop}
use Rattle.debugger.specs.Traces.{traced, next_of, halt_of}
use Rattle.debugger.specs.Ways.{traced_at, Leads}
use Rattle.debugger.specs.declared.halt.Halt.TheVariants as halt
use Rattle.debugger.specs.declared.place.Place.{Place}
use Rattle.debugger.proofs.Along.{leads-one, leads-then}
use Rattle.debugger.proofs.Onward.{reached-leads, trap-halt, call-next, trap-not_limit, call-not_limit, same_halt, halted-not_done, entering-not_done}
use Rattle.debugger.proofs.place.Place.stretch.Goals as goal

pub returns-in-Limit-clause-leads : goal.returns-in-Limit-clause-leads
returns-in-Limit-clause-leads c =
    reached-leads c.args.max c.run-done.result.0 c.args.self.now.machine c.run-done.new.self c.run-done.result.1 (drop c.args.self.now.taken c.args.replies.now) c.run-done.ensures.run

pub returns-in-Trap-clause-leads : goal.returns-in-Trap-clause-leads
returns-in-Trap-clause-leads c =
    reached-leads c.args.max c.run-done.result.0 c.args.self.now.machine c.run-done.new.self c.run-done.result.1 (drop c.args.self.now.taken c.args.replies.now) c.run-done.ensures.run

pub returns-in-Trap-clause-stands : goal.returns-in-Trap-clause-stands
returns-in-Trap-clause-stands c = λ why e.
    trap-halt (traced c.run-done.new.self (drop c.args.self.now.taken c.args.replies.now)) c.in-Trap.cause
    (c.run-done.ensures.standing (λ limit. trap-not_limit c.in-Trap.cause (sym c.in-Trap.is ∙ limit)) ∙ ap (λ (stop : Stop). Some stop) c.in-Trap.is)
    ∙ same_halt (halt.Trap c.in-Trap.cause) why e

pub returns-in-Done-clause-leads : goal.returns-in-Done-clause-leads
returns-in-Done-clause-leads c =
    let left = drop c.args.self.now.taken c.args.replies.now in
    leads-then c.run-done.result.0 1 (traced_at c.args.replies.now c.args.self.now) (traced c.run-done.new.self left) (traced_at c.args.replies.now c.take_reply.new.self)
    (reached-leads c.args.max c.run-done.result.0 c.args.self.now.machine c.run-done.new.self c.run-done.result.1 left c.run-done.ensures.run)
    (leads-one (traced c.run-done.new.self left) (traced_at c.args.replies.now c.take_reply.new.self)
    (call-next (traced c.run-done.new.self left) (c.run-done.ensures.standing (λ limit. call-not_limit (sym c.in-Call.is ∙ limit)) ∙ ap (λ (stop : Stop). Some stop) c.in-Call.is)
    ∙ c.in-Done.ensures.taken refl))

pub returns-in-Halted-clause-leads : goal.returns-in-Halted-clause-leads
returns-in-Halted-clause-leads c =
    subst (λ (place : Place). Leads c.run-done.result.0 (traced_at c.args.replies.now c.args.self.now) (traced_at c.args.replies.now place)) (sym (c.in-Halted.ensures.left (halted-not_done c.in-Halted.halt)))
    (reached-leads c.args.max c.run-done.result.0 c.args.self.now.machine c.run-done.new.self c.run-done.result.1 (drop c.args.self.now.taken c.args.replies.now) c.run-done.ensures.run)

pub returns-in-Halted-clause-stands : goal.returns-in-Halted-clause-stands
returns-in-Halted-clause-stands c = λ why e.
    ap (λ (place : Place). halt_of (next_of (traced_at c.args.replies.now place))) (c.in-Halted.ensures.left (halted-not_done c.in-Halted.halt))
    ∙ ap halt_of (call-next (traced c.run-done.new.self (drop c.args.self.now.taken c.args.replies.now))
    (c.run-done.ensures.standing (λ limit. call-not_limit (sym c.in-Call.is ∙ limit)) ∙ ap (λ (stop : Stop). Some stop) c.in-Call.is))
    ∙ c.in-Halted.ensures.halted why e

pub returns-in-Entering-clause-leads : goal.returns-in-Entering-clause-leads
returns-in-Entering-clause-leads c =
    subst (λ (place : Place). Leads c.run-done.result.0 (traced_at c.args.replies.now c.args.self.now) (traced_at c.args.replies.now place)) (sym (c.in-Entering.ensures.left entering-not_done))
    (reached-leads c.args.max c.run-done.result.0 c.args.self.now.machine c.run-done.new.self c.run-done.result.1 (drop c.args.self.now.taken c.args.replies.now) c.run-done.ensures.run)

pub returns-in-Entering-clause-onward : goal.returns-in-Entering-clause-onward
returns-in-Entering-clause-onward c = λ _.
    ap (λ (place : Place). halt_of (next_of (traced_at c.args.replies.now place))) (c.in-Entering.ensures.left entering-not_done)
    ∙ ap halt_of (call-next (traced c.run-done.new.self (drop c.args.self.now.taken c.args.replies.now))
    (c.run-done.ensures.standing (λ limit. call-not_limit (sym c.in-Call.is ∙ limit)) ∙ ap (λ (stop : Stop). Some stop) c.in-Call.is))
    ∙ c.in-Entering.ensures.onward refl
