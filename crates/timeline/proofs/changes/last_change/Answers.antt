-- One part of the way back more.
use Rattle.std.proofs.Common.{◌≡◌, ℕ, ◌-◌, ◌*◌, ◌/◌, ◌%◌, Some, sym, ap, subst, ◌∙◌, arith}
use Rattle.std.specs.Prelude.{Option}
use Rattle.machine_model.specs.States.{State}
use Rattle.debugger.specs.Sessions.{Session, halt_at, place_at}
use Rattle.timeline.specs.Changes.{IsLastChange, NoneChanges}
use Rattle.timeline.proofs.Changing.{last-joined, none-joined, onward, rest-kept}
use Rattle.timeline.proofs.changes.last_change.Goals as goal

pub last_change_before-requires-clause-onward : goal.last_change_before-requires-clause-onward
last_change_before-requires-clause-onward c =
    let there : (place_at c.args.debugger.now c.args.debugger.now.count).state.count ≡ c.args.debugger.now.count = ap (λ (s : State). s.count) (sym c.state.ensures.state) ∙ c.state.ensures.count in
    λ n less.
    ap (λ (s : Session). halt_at s n) c.in_ok-rewind.ensures.back
    ∙ ap (λ (s : Session). halt_at s n) c.loop-end.invariant.rest
    ∙ onward c.args.debugger.now n there (omega (arith, less, c.loop-end.invariant.within))

pub returns-in-Some-clause-change : goal.returns-in-Some-clause-change
returns-in-Some-clause-change c =
    let back : c.rewind.new.self ≡ record c.args.debugger.now { count = (c.loop-end.end - 1) / 1024 * 1024; reran = (c.loop-end.end - 1) / 1024 * 1024 % 1024 } =
    c.in_ok-rewind.ensures.back ∙ ap (λ (s : Session). record s { count = (c.loop-end.end - 1) / 1024 * 1024; reran = (c.loop-end.end - 1) / 1024 * 1024 % 1024 }) c.loop-end.invariant.rest in
    let part : IsLastChange c.rewind.new.self c.args.locations.now c.rewind.new.self.count c.loop-end.end (Some c.in-Some.count) =
    subst (λ (o : Option ℕ). IsLastChange c.rewind.new.self c.args.locations.now c.rewind.new.self.count c.loop-end.end o) c.in-Some.is c.in_ok-count.ensures.last in
    let moved : IsLastChange c.args.debugger.now c.args.locations.now c.rewind.new.self.count c.loop-end.end (Some c.in-Some.count) =
    subst (λ (s : Session). IsLastChange s c.args.locations.now c.rewind.new.self.count c.loop-end.end (Some c.in-Some.count)) back part in
    last-joined c.args.debugger.now c.args.locations.now c.rewind.new.self.count c.loop-end.end c.args.debugger.now.count c.in-Some.count moved c.loop-end.invariant.within c.loop-end.invariant.none

pub loop-end-preserved : goal.loop-end-preserved
loop-end-preserved c =
    let back : c.rewind.new.self ≡ record c.args.debugger.now { count = (c.loop-end.end - 1) / 1024 * 1024; reran = (c.loop-end.end - 1) / 1024 * 1024 % 1024 } =
    c.in_ok-rewind.ensures.back ∙ ap (λ (s : Session). record s { count = (c.loop-end.end - 1) / 1024 * 1024; reran = (c.loop-end.end - 1) / 1024 * 1024 % 1024 }) c.loop-end.invariant.rest in
    let low : c.rewind.new.self.count ≡ (c.loop-end.end - 1) / 1024 * 1024 = ap (λ (s : Session). s.count) back in
    let here : c.last_change_before.new.debugger ≡ record c.args.debugger.now { count = c.loop-end.end; reran = (c.loop-end.end - 1) / 1024 * 1024 % 1024 } =
    c.in_ok-count.ensures.there ∙ ap (λ (s : Session). record s { count = c.loop-end.end }) back in
    let part : NoneChanges c.rewind.new.self c.args.locations.now c.rewind.new.self.count c.loop-end.end =
    subst (λ (o : Option ℕ). IsLastChange c.rewind.new.self c.args.locations.now c.rewind.new.self.count c.loop-end.end o) c.in_default.is c.in_ok-count.ensures.last in
    let none : NoneChanges c.args.debugger.now c.args.locations.now c.rewind.new.self.count c.loop-end.end =
    subst (λ (s : Session). NoneChanges s c.args.locations.now c.rewind.new.self.count c.loop-end.end) back part in
    let counts : c.last_change_before.new.debugger.count ≡ c.loop-end.end = ap (λ (s : Session). s.count) here in
    record {
      rest = rest-kept c.args.debugger.now c.last_change_before.new.debugger c.loop-end.end ((c.loop-end.end - 1) / 1024 * 1024 % 1024) here;
      ahead = omega (arith, counts);
      within = omega (arith, c.loop-end.invariant.within);
      none = none-joined c.args.debugger.now c.args.locations.now ((c.loop-end.end - 1) / 1024 * 1024) c.loop-end.end c.args.debugger.now.count (subst (λ (n : ℕ). NoneChanges c.args.debugger.now c.args.locations.now n c.loop-end.end) low none) c.loop-end.invariant.none;
    }

pub returns-clause-change : goal.returns-clause-change
returns-clause-change c =
    let end : c.loop-end.end ≡ 0 = omega (arith, c.loop-end-test.false) in
    λ n above below. c.loop-end.invariant.none n (omega (arith, end)) below
