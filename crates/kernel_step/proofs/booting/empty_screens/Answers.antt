-- One screen more.
use Rattle.std.proofs.Common.{ℕ, subst, sym, List}
use Rattle.held_output.specs.Withheld.{Withheld}
use Rattle.kernel_step.specs.First.{AreEmpty}
use Rattle.kernel_step.proofs.Beginning.{empty-none, empty-more}
use Rattle.kernel_step.proofs.booting.empty_screens.Goals as goal

pub loop-terminal-init : goal.loop-terminal-init
loop-terminal-init c = subst (λ (ss : List (Withheld ℕ)). AreEmpty 0 ss) (sym c.new-screens.ensures.items) empty-none

pub loop-terminal-preserved : goal.loop-terminal-preserved
loop-terminal-preserved c = empty-more c.loop-terminal._terminal c.loop-terminal.screens.items c.push.new.self.items c.new.result
    c.loop-terminal.invariant c.new.ensures c.in_ok-push.ensures.items
