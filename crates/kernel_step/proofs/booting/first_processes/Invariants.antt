-- The parts of the programs so far.
use Rattle.std.proofs.Common.{◌≡◌, take}
use Rattle.kernel_step.specs.First.{parts_from}
use Rattle.kernel_step.proofs.booting.first_processes.Given as goal

abbrev pub invariant-loop-place : goal.invariant-loop-place
invariant-loop-place l = l.processes.parts ≡ parts_from 0 (take l.place l.programs)
