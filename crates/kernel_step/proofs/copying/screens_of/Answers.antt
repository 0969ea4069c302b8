-- One more screen is copied.
use Rattle.std.proofs.Common.{map, ap, ◌∙◌, arith}
use Rattle.kernel_step.specs.Copies.{screen_of}
use Rattle.kernel_step.proofs.SameParts.{copied-more}
use Rattle.kernel_step.proofs.copying.screens_of.Goals as goal

pub loop-screen-preserved : goal.loop-screen-preserved
loop-screen-preserved c =
    ap (map screen_of) c.in_ok-push.ensures.items
    ∙ copied-more screen_of c.args.screens.now c.loop-screen.copies.items c.loop-screen.screen-index c.screen-item.result _ (omega (arith, c.loop-screen-test.true)) c.screen-item.is
    (λ t. record { items = c.in_ok-try_clone.ensures.items t; committed = c.in_ok-try_clone.ensures.committed t }) c.loop-screen.invariant
