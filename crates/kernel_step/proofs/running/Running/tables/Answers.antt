-- The tables show what the run has.
use Rattle.std.proofs.Common.{sym, subst}
use Rattle.calls.specs.Sights.{Sight}
use Rattle.kernel_model.specs.World.{run_of}
use Rattle.kernel_step.specs.Entering.{IsSightOf}
use Rattle.kernel_step.proofs.EnterWorld.{sight-is}
use Rattle.kernel_step.proofs.running.Running.tables.Goals as goal

pub returns : goal.returns
returns c = λ b h.
    subst (λ (seen : Sight). IsSightOf (run_of b c.args.self.now.history.items).sync seen) (sym c.tables.ensures)
    (sight-is (run_of b c.args.self.now.history.items) c.args.self.now.tasks.items c.args.self.now.system h.parts.mirrors)
