-- The tasks of the programs so far.
use Rattle.kernel_step.proofs.Beginning.{FirstSo}
use Rattle.kernel_step.proofs.booting.first_tasks.Given as goal

abbrev pub invariant-loop-place : goal.invariant-loop-place
invariant-loop-place l = FirstSo l.programs l.tasks.items l.place
