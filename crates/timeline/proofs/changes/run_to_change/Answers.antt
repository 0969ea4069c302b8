-- One instruction more.
use Rattle.std.proofs.Common.{◌≡◌, ◌+◌, true, false, Some, sym, ap, subst, ◌∙◌}
use Rattle.std.proofs.lemmas.Option.{none-some}
use Rattle.machine_model.specs.States.{State}
use Rattle.debugger.specs.Backward.{break_after}
use Rattle.debugger.specs.Sessions.{Session, place_at}
use Rattle.debugger.specs.Stops.{least_from}
use Rattle.timeline.specs.Locations.{held_in}
use Rattle.timeline.specs.Changes.{ChangesAt, RunsToChange, held_at}
use Rattle.timeline.proofs.Changing.{ends-broken, ends-changed, ends-here, unchanged-more}
use Rattle.timeline.proofs.changes.run_to_change.Goals as goal

differ : true ≡ false → ⊥
differ e = cc

pub returns-in-Some : goal.returns-in-Some
returns-in-Some c =
    let stays : c.step_on.new.debugger ≡ c.loop.debugger = c.in_ok-stopped.ensures.stays (λ e. none-some c.in-Some.stopped (sym e ∙ c.in-Some.is)) in
    subst (λ (s : Session). RunsToChange c.args.debugger.now c.args.locations.now (Some c.in-Some.stopped) s) (sym stays)
    (ends-here c.args.debugger.now c.loop.debugger c.args.locations.now c.in-Some.stopped c.loop.invariant.so_far (λ number is. c.in_ok-stopped.ensures.halts number (c.in-Some.is ∙ is)))

pub returns-then-not-are_same : goal.returns-then-not-are_same
returns-then-not-are_same c =
    let goes : c.step_on.new.debugger ≡ record c.loop.debugger { count = c.loop.debugger.count + 1 } = c.in_ok-stopped.ensures.went c.in_default.is in
    let stands : c.step_on.new.debugger ≡ record c.args.debugger.now { count = c.loop.debugger.count + 1 } = goes ∙ ap (λ (s : Session). record s { count = c.loop.debugger.count + 1 }) c.loop.invariant.so_far.rest in
    let held : c.read_held-in-loop.new.held.items ≡ held_at c.args.debugger.now c.args.locations.now (c.loop.debugger.count + 1) =
    c.in_ok-read_held-2.ensures ∙ ap (held_in c.args.locations.now) (c.state-in-loop.ensures.state ∙ ap (λ (s : Session). (place_at s s.count).state) stands) in
    let changes : ChangesAt c.args.debugger.now c.args.locations.now c.loop.debugger.count = λ e.
    let same : c.are_same.result ≡ true = c.are_same.ensures.1 (c.deref.ensures.value ∙ held ∙ e ∙ sym c.loop.invariant.holds ∙ sym c.deref-in-loop.ensures.value) in
    differ (sym same ∙ c.if-not-are_same.true) in
    ends-changed c.args.debugger.now c.loop.debugger c.step_on.new.debugger c.args.locations.now c.loop.invariant.so_far goes changes

pub returns-in-Some-number_at : goal.returns-in-Some-number_at
returns-in-Some-number_at c =
    let goes : c.step_on.new.debugger ≡ record c.loop.debugger { count = c.loop.debugger.count + 1 } = c.in_ok-stopped.ensures.went c.in_default.is in
    let stands : c.step_on.new.debugger ≡ record c.args.debugger.now { count = c.loop.debugger.count + 1 } = goes ∙ ap (λ (s : Session). record s { count = c.loop.debugger.count + 1 }) c.loop.invariant.so_far.rest in
    let held : c.read_held-in-loop.new.held.items ≡ held_at c.args.debugger.now c.args.locations.now (c.loop.debugger.count + 1) =
    c.in_ok-read_held-2.ensures ∙ ap (held_in c.args.locations.now) (c.state-in-loop.ensures.state ∙ ap (λ (s : Session). (place_at s s.count).state) stands) in
    let same : held_at c.args.debugger.now c.args.locations.now (c.loop.debugger.count + 1) ≡ held_at c.args.debugger.now c.args.locations.now c.loop.debugger.count =
    sym held ∙ sym c.deref.ensures.value ∙ c.are_same.ensures.0 c.if-not-are_same.false ∙ c.deref-in-loop.ensures.value ∙ c.loop.invariant.holds in
    let break_is : c.number_at.result ≡ break_after c.args.debugger.now (c.loop.debugger.count + 1) =
    c.number_at.ensures ∙ ap (least_from 0 c.step_on.new.debugger.breaks) (c.pc.ensures.value ∙ ap (λ (s : State). s.architectural.pc) c.state-in-loop-2.ensures.state)
    ∙ ap (λ (s : Session). least_from 0 s.breaks (place_at s s.count).state.architectural.pc) stands in
    ends-broken c.args.debugger.now c.loop.debugger c.step_on.new.debugger c.args.locations.now c.in-Some-number_at.number c.loop.invariant.so_far goes same (sym break_is ∙ c.in-Some-number_at.is)

pub loop-preserved : goal.loop-preserved
loop-preserved c =
    let goes : c.step_on.new.debugger ≡ record c.loop.debugger { count = c.loop.debugger.count + 1 } = c.in_ok-stopped.ensures.went c.in_default.is in
    let stands : c.step_on.new.debugger ≡ record c.args.debugger.now { count = c.loop.debugger.count + 1 } = goes ∙ ap (λ (s : Session). record s { count = c.loop.debugger.count + 1 }) c.loop.invariant.so_far.rest in
    let held : c.read_held-in-loop.new.held.items ≡ held_at c.args.debugger.now c.args.locations.now (c.loop.debugger.count + 1) =
    c.in_ok-read_held-2.ensures ∙ ap (held_in c.args.locations.now) (c.state-in-loop.ensures.state ∙ ap (λ (s : Session). (place_at s s.count).state) stands) in
    let same : held_at c.args.debugger.now c.args.locations.now (c.loop.debugger.count + 1) ≡ held_at c.args.debugger.now c.args.locations.now c.loop.debugger.count =
    sym held ∙ sym c.deref.ensures.value ∙ c.are_same.ensures.0 c.if-not-are_same.false ∙ c.deref-in-loop.ensures.value ∙ c.loop.invariant.holds in
    let break_is : c.number_at.result ≡ break_after c.args.debugger.now (c.loop.debugger.count + 1) =
    c.number_at.ensures ∙ ap (least_from 0 c.step_on.new.debugger.breaks) (c.pc.ensures.value ∙ ap (λ (s : State). s.architectural.pc) c.state-in-loop-2.ensures.state)
    ∙ ap (λ (s : Session). least_from 0 s.breaks (place_at s s.count).state.architectural.pc) stands in
    record {
      so_far = unchanged-more c.args.debugger.now c.loop.debugger c.step_on.new.debugger c.args.locations.now c.loop.invariant.so_far goes same (sym break_is ∙ c.in_default-number_at.is);
      holds = c.loop.invariant.holds ∙ sym same ∙ sym (ap (λ (s : Session). held_at c.args.debugger.now c.args.locations.now s.count) goes);
    }
