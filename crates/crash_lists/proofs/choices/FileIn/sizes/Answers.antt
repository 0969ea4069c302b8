-- By delayed a length is as late as delayed asks.
use Rattle.std.proofs.Common.{subst, sym}
use Rattle.crash_lists.specs.Rules.{LengthMayBe}
use Rattle.crash_lists.specs.declared.model.CrashModel.{CrashModel}
use Rattle.crash_lists.proofs.choices.FileIn.sizes.Goals as goal

pub returns-in-Delayed : goal.returns-in-Delayed
returns-in-Delayed c = λ size low high.
    let file = c.args.self.now in
    subst (λ (m : CrashModel). LengthMayBe m file.window.now.moments.items file.number c.args.common size) (sym c.in-Delayed.is) (c.first_late.ensures size low high)
