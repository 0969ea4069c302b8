-- The screens so far are empty.
use Rattle.kernel_step.specs.First.{AreEmpty}
use Rattle.kernel_step.proofs.booting.empty_screens.Given as goal

abbrev pub invariant-loop-terminal : goal.invariant-loop-terminal
invariant-loop-terminal l = AreEmpty l._terminal l.screens.items
