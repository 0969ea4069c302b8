-- All that is on a screen is all that the run wrote to it.
use Rattle.std.proofs.Common.{◌≡◌, ◌<◌, ℕ, ◌∙◌, arith, length, slice_get, Some}
use Rattle.kernel_model.specs.Shown.{printed}
use Rattle.kernel_model.specs.World.{run_of}
use Rattle.held_output.specs.Withheld.{Withheld}
use Rattle.kernel_step.proofs.Lists.{get-there}
use Rattle.kernel_step.proofs.Releasing.{written-is}
use Rattle.kernel_step.proofs.running.Running.written.Goals as goal

pub returns : goal.returns
returns c = λ b h.
    let s : Withheld ℕ = c.index-screen.result.now in
    let screens = h.parts.mirrors.screens in
    let within : c.args.terminal < length c.args.self.now.system.screens.items = omega (arith, screens.count, c.requires.there) in
    let there : slice_get c.args.self.now.system.screens.items c.args.terminal ≡ Some s = get-there c.args.self.now.system.screens.items c.args.terminal s within c.index-screen.ensures in
    c.items.ensures
    ∙ written-is (printed c.args.terminal (run_of b c.args.self.now.history.items).log) s.items (screens.each c.args.terminal s there).marked
