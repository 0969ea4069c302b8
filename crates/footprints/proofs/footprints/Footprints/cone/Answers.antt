-- The events are walked from event n back to the first.
use Rattle.std.proofs.Common.{rules, ◌≡◌, ◌+◌, ◌-◌, ◌++◌, ◌∷◌, [], sym, ◌∙◌}
use Rattle.footprints.specs.Footprints.{footprints_after}
use Rattle.footprints.proofs.Logs.{in_cone}
use Rattle.footprints.proofs.Places.{first_back, found_back, past_back}
use Rattle.footprints.proofs.Walking.{walked_all}
use Rattle.footprints.proofs.footprints.Footprints.cone.Goals as goal

pub loop-place-init : goal.loop-place-init
loop-place-init c =
    let only : c.push.new.self.items ≡ c.args.n ∷ [] = search rules in
    first_back c.args.events.now c.args.self.now.footprints c.args.n c.count_enters-enters.result _ _ c.want_reads.new.wanted c.push.new.self.items c.requires.first c.requires.there
    c.count_enters-enters.ensures c.new-wanted.ensures c.in_ok-want_reads.ensures only

pub loop-place-preserved-in-Continue-branch-4 : goal.loop-place-preserved-in-Continue-branch-4
loop-place-preserved-in-Continue-branch-4 c =
    let more : c.push-then-writes_wanted.new.self.items ≡ c.loop-place.numbers.items ++ (c.loop-place.place - 1 + 1) ∷ [] = search rules in
    found_back c.args.events.now c.args.self.now.footprints c.args.n c.loop-place.place c.loop-place.enters c.enters_before-enters.result _ c.loop-place.wanted c.loop-place.numbers.items
    c.loop-place-test.true c.loop-place.auto.place c.requires.there c.loop-place.invariant c.enters_before-enters.ensures
    c.want_reads-then-writes_wanted.new.wanted c.push-then-writes_wanted.new.self.items (sym c.writes_wanted.ensures ∙ c.if-writes_wanted.true) c.in_ok-want_reads-2.ensures more

pub loop-place-preserved : goal.loop-place-preserved
loop-place-preserved c =
    past_back c.args.events.now c.args.self.now.footprints c.args.n c.loop-place.place c.loop-place.enters c.enters_before-enters.result _ c.loop-place.wanted c.loop-place.numbers.items
    c.loop-place-test.true c.loop-place.auto.place c.requires.there c.loop-place.invariant c.enters_before-enters.ensures (sym c.writes_wanted.ensures ∙ c.if-writes_wanted.false)

pub returns : goal.returns
returns c =
    in_cone c.args.events.now c.args.self.now.footprints c.args.n c.reverse.new.self.items c.requires.first c.requires.there
    (c.reverse.ensures.items
    ∙ walked_all (footprints_after 0 c.args.events.now c.args.self.now.footprints) c.args.n c.loop-place.place c.loop-place.wanted c.loop-place.numbers.items c.loop-place-test.false c.loop-place.invariant.walked)
