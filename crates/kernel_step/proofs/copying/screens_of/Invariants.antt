-- The screens so far are copied.
use Rattle.std.proofs.Common.{◌≡◌, take, map}
use Rattle.kernel_step.specs.Copies.{screen_of}
use Rattle.kernel_step.proofs.copying.screens_of.Given as goal

abbrev pub invariant-loop-screen : goal.invariant-loop-screen
invariant-loop-screen l = map screen_of l.copies.items ≡ take l.screen-index (map screen_of l.screens)
