-- One more shared part is the same, or differs.
use Rattle.std.proofs.Common.{sym, ◌∙◌}
use Rattle.memory.proofs.Standing.{take_more-map, same_at-map}
use Rattle.memory.proofs.comparing.are_same_shared.Goals as goal

pub returns-then-not-is_same : goal.returns-then-not-is_same
returns-then-not-is_same c = (
  λ e. absurd cc,
  λ same. sym c.if-not-is_same.true
      ∙ c.is_same.ensures.1 (c.deref.ensures ∙ same_at-map (λ a. a.value) c.args.parts.now c.args.others.now c.loop-i.i c.index-parts-i.result c.index-others-i.result c.if-parts-others.false c.loop-i-test.true c.index-parts-i.is c.index-others-i.is same ∙ sym c.deref-in-loop-i.ensures),
)

pub loop-i-preserved : goal.loop-i-preserved
loop-i-preserved c =
    take_more-map (λ a. a.value) c.args.parts.now c.args.others.now c.loop-i.i c.index-parts-i.result c.index-others-i.result c.if-parts-others.false c.loop-i-test.true c.index-parts-i.is c.index-others-i.is
    (sym c.deref.ensures ∙ c.is_same.ensures.0 c.if-not-is_same.false ∙ c.deref-in-loop-i.ensures) c.loop-i.invariant
