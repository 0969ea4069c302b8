-- A program for each of those so far, with its terminal.
use Rattle.std.proofs.Common.{◌≡◌, ◌<◌, length}
use Rattle.std.specs.List.{AllByRecursion}
use Rattle.kernel_model.specs.World.{terminal_count}
use Rattle.kernel_step.specs.declared.booting.Program.{Program}
use Rattle.scripts.proofs.launch.programs_of.Given as goal

abbrev pub invariant-loop-program : goal.invariant-loop-program
invariant-loop-program l = (length l.booted.items ≡ l.program-index) × AllByRecursion (λ (p : Program). p.terminal < terminal_count) l.booted.items
