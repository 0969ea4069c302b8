-- By the kind of the event.
use Rattle.std.proofs.Common.{List, ap, sym, get_or, ◌∙◌}
use Rattle.kernel_model.specs.Entries.{meets}
use Rattle.kernel_model.specs.declared.carrier.Carrier.{Carrier}
use Rattle.kernel_model.specs.declared.event.Event.{Event}
use Rattle.footprints.specs.Footprints.{footprint_by}
use Rattle.footprints.specs.Kept.{no_footprint}
use Rattle.footprints.proofs.Events.{turn_writes}
use Rattle.footprints.proofs.footprints.Footprints.writes_wanted.Goals as goal

pub returns-in-Turn : goal.returns-in-Turn
returns-in-Turn c = c.has.ensures ∙ turn_writes c.args.event c.in-Turn.pid c.in-Turn.n (get_or c.args.self.now.footprints c.args.enters no_footprint) c.args.wanted.now c.in-Turn.is

pub returns-in-Enter : goal.returns-in-Enter
returns-in-Enter c =
    c.has_any.ensures ∙ ap (λ (ws : List Carrier). meets ws c.args.wanted.now) c.writes.ensures
    ∙ ap (λ (e : Event). meets (footprint_by e (get_or c.args.self.now.footprints c.args.enters no_footprint)).writes c.args.wanted.now) (sym c.in-Enter.is)

pub returns-in-Cut : goal.returns-in-Cut
returns-in-Cut c = ap (λ (e : Event). meets (footprint_by e (get_or c.args.self.now.footprints c.args.enters no_footprint)).writes c.args.wanted.now) (sym c.in-Cut.is)

pub returns-in-Complete : goal.returns-in-Complete
returns-in-Complete c = ap (λ (e : Event). meets (footprint_by e (get_or c.args.self.now.footprints c.args.enters no_footprint)).writes c.args.wanted.now) (sym c.in-Complete.is)

pub returns-in-Fail : goal.returns-in-Fail
returns-in-Fail c = ap (λ (e : Event). meets (footprint_by e (get_or c.args.self.now.footprints c.args.enters no_footprint)).writes c.args.wanted.now) (sym c.in-Fail.is)
