-- By posix it is what posix asks.
use Rattle.std.proofs.Common.{subst, sym}
use Rattle.crash_lists.specs.Rules.{AreBy}
use Rattle.crash_lists.specs.declared.model.CrashModel.{CrashModel}
use Rattle.crash_lists.proofs.choices.FileIn.allows.Goals as goal

pub returns-in-Posix : goal.returns-in-Posix
returns-in-Posix c = λ holds.
    let file = c.args.self.now in
    subst (λ (m : CrashModel). AreBy m file.window.now.moments.items c.args.change file.number c.args.size c.args.moment c.args.cell) (sym c.in-Posix.is) (c.keeps_whole.ensures holds)
