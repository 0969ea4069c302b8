-- One instruction more.
use Rattle.std.proofs.Common.{◌≡◌, ℕ, ◌+◌, ◌<◌, ◌≤◌, true, false, None, Vec, Global, sym, ap, subst, ◌∙◌, arith}
use Rattle.std.specs.Prelude.{Option}
use Rattle.debugger.specs.Sessions.{Session, halt_at, place_at}
use Rattle.timeline.specs.Locations.{held_in}
use Rattle.timeline.specs.Changes.{ChangesAt, IsLastChange, held_at}
use Rattle.timeline.proofs.Changing.{last-kept, last-new, went}
use Rattle.timeline.proofs.changes.last_change_before.Goals.{then-not-are_same, else-not-are_same}
use Rattle.timeline.proofs.changes.last_change_before.Goals as goal

differ : true ≡ false → ⊥
differ e = cc

pub loop-count-preserved : goal.loop-count-preserved
loop-count-preserved c =
    let less : c.loop-count.count < c.args.end = c.loop-count-test.true in
    let here : c.loop-count.debugger ≡ record c.args.debugger.now { count = c.loop-count.count } = c.loop-count.invariant.stands in
    let free : halt_at c.loop-count.debugger c.loop-count.debugger.count ≡ None = subst (λ (s : Session). halt_at s s.count ≡ None) (sym here) (c.requires.onward c.loop-count.count less) in
    let goes : c.step.new.self ≡ record c.loop-count.debugger { count = c.loop-count.debugger.count + 1 } = c.in_ok-step.ensures.after ∙ went c.loop-count.debugger c.in_ok-step.field-0 free c.in_ok-step.ensures.answer in
    let stands : c.step.new.self ≡ record c.args.debugger.now { count = c.loop-count.count + 1 } = goes ∙ ap (λ (s : Session). record s { count = s.count + 1 }) here in
    let held : c.read_held-in-loop-count.new.held.items ≡ held_at c.args.debugger.now c.args.locations.now (c.loop-count.count + 1) =
    c.in_ok-read_held-2.ensures ∙ ap (held_in c.args.locations.now) (c.state-in-loop-count.ensures.state ∙ ap (λ (s : Session). (place_at s s.count).state) stands) in
    elim c.if-not-are_same.branch [
      | then-not-are_same w ↦
          let changes : ChangesAt c.args.debugger.now c.args.locations.now c.loop-count.count = λ e.
          let same : c.are_same.result ≡ true = c.are_same.ensures.1 (c.deref.ensures.value ∙ held ∙ e ∙ sym c.loop-count.invariant.holds ∙ sym c.deref-in-loop-count.ensures.value) in
          differ (sym same ∙ w.if-not-are_same.true) in
          let first : c.count-count.result ≡ c.args.debugger.now.count = c.count-count.ensures ∙ c.state-2.ensures.count in
          let ahead : c.args.debugger.now.count ≤ c.loop-count.count = omega (arith, first, c.loop-count.auto.count) in
          record {
            stands = stands;
            holds = ap (λ (v : Vec (Option ℕ) Global). v.items) w.before-is ∙ ap (λ (v : Vec (Option ℕ) Global). v.items) w.swap.ensures.x_after ∙ held;
            last = subst (λ (o : Option ℕ). IsLastChange c.args.debugger.now c.args.locations.now c.args.debugger.now.count (c.loop-count.count + 1) o) (sym w.last-is) (last-new c.args.debugger.now c.args.locations.now c.args.debugger.now.count c.loop-count.count ahead changes);
          }
      | else-not-are_same w ↦
          let same : held_at c.args.debugger.now c.args.locations.now (c.loop-count.count + 1) ≡ held_at c.args.debugger.now c.args.locations.now c.loop-count.count =
          sym held ∙ sym c.deref.ensures.value ∙ c.are_same.ensures.0 w.if-not-are_same.false ∙ c.deref-in-loop-count.ensures.value ∙ c.loop-count.invariant.holds in
          record {
            stands = stands;
            holds = ap (λ (v : Vec (Option ℕ) Global). v.items) w.before-is ∙ c.loop-count.invariant.holds ∙ sym same;
            last = subst (λ (o : Option ℕ). IsLastChange c.args.debugger.now c.args.locations.now c.args.debugger.now.count (c.loop-count.count + 1) o) (sym w.last-is) (last-kept c.args.debugger.now c.args.locations.now c.args.debugger.now.count c.loop-count.count c.loop-count.last c.loop-count.invariant.last same);
          }
    ]

pub returns-clause-last : goal.returns-clause-last
returns-clause-last c =
    let end : c.loop-count.count ≡ c.args.end = omega arith in
    subst (λ (n : ℕ). IsLastChange c.args.debugger.now c.args.locations.now c.args.debugger.now.count n c.loop-count.last) end c.loop-count.invariant.last
