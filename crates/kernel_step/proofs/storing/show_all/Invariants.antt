-- The screens before the index have advanced.
use Rattle.kernel_step.specs.Advanced.{IsAdvanced}
use Rattle.kernel_step.proofs.Moving.{Moved}
use Rattle.kernel_step.proofs.storing.show_all.Given as goal

abbrev pub invariant-loop-screen : goal.invariant-loop-screen
invariant-loop-screen l = Moved (IsAdvanced l.committed) l.initial.screens l.screens l.screen-index
