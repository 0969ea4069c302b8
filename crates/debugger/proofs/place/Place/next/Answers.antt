-- One instruction of the same place.
use Rattle.std.proofs.Common.{ap, subst, ◌∙◌}
use Rattle.debugger.specs.Traces.{halt_of, next_of}
use Rattle.debugger.specs.Ways.{traced_at, Leads}
use Rattle.debugger.specs.declared.place.Place.{Place}
use Rattle.debugger.proofs.Onward.{came-one}
use Rattle.debugger.proofs.place.Place.next.Goals as goal

pub returns-clause-leads : goal.returns-clause-leads
returns-clause-leads c =
    subst (λ (place : Place). Leads 1 (traced_at c.args.replies.now place) (traced_at c.args.replies.now c.advance.new.self)) c.in_ok-next.ensures
    (came-one (traced_at c.args.replies.now c.in_ok-next.next) (traced_at c.args.replies.now c.advance.new.self) c.in_ok-advance.field-0
    (ap (λ (place : Place). halt_of (next_of (traced_at c.args.replies.now place))) c.in_ok-next.ensures ∙ c.requires.onward) c.in_ok-advance.ensures.came)
