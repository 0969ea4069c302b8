-- What keeps a machine from going on, by where it stands.
use Rattle.std.proofs.Common.{Some, sym, ap, ◌∙◌}
use Rattle.machine_model.specs.declared.stop.Stop.{Stop}
use Rattle.debugger.specs.Traces.{halt_of}
use Rattle.debugger.specs.Ways.{traced_at}
use Rattle.debugger.proofs.Onward.{goes-halt, trap-halt, call-next, limit-halt}
use Rattle.debugger.proofs.place.Place.halt.Goals as goal

pub returns-in-None : goal.returns-in-None
returns-in-None c = sym (goes-halt (traced_at c.args.replies.now c.args.self.now) (sym c.in-None.ensures))

pub returns-in-Some-Trap : goal.returns-in-Some-Trap
returns-in-Some-Trap c =
    sym (trap-halt (traced_at c.args.replies.now c.args.self.now) c.in-Some-Trap.cause (sym c.in-Some-Trap.ensures ∙ ap (λ (stop : Stop). Some stop) c.in-Some-Trap.field-0-is))

pub returns-in-Some-Call : goal.returns-in-Some-Call
returns-in-Some-Call c =
    c.call_halt.ensures ∙ sym (ap halt_of (call-next (traced_at c.args.replies.now c.args.self.now) (sym c.in-Some-Call.ensures ∙ ap (λ (stop : Stop). Some stop) c.in-Some-Call.field-0-is)))

pub returns-in-Some-Limit : goal.returns-in-Some-Limit
returns-in-Some-Limit c =
    sym (limit-halt (traced_at c.args.replies.now c.args.self.now) (sym c.in-Some-Limit.ensures ∙ ap (λ (stop : Stop). Some stop) c.in-Some-Limit.field-0-is))
