-- That was asked, and a Cut is no call that a stage makes.
use Rattle.std.proofs.Common.{refl, ◌∙◌}
use Rattle.run_threads.proofs.CoreCalls.{none_wanted}
use Rattle.run_threads.proofs.committing.CommitThread.cut_if_wanted.Goals as goal

pub returns-then-not-wants_cut : goal.returns-then-not-wants_cut
returns-then-not-wants_cut g c = rw (← c.self.view_is) (none_wanted _ _ _ c.wants_cut.ensures.account, refl, refl)

pub returns-in_err-cut : goal.returns-in_err-cut
returns-in_err-cut g c = rw (← c.self.view_is) (c.cut.ensures.0 ∙ none_wanted _ _ _ c.wants_cut.ensures.account, c.cut.ensures.1, c.cut.ensures.2)

pub returns : goal.returns
returns g c = rw (← c.self.view_is) (c.cut.ensures.0 ∙ none_wanted _ _ _ c.wants_cut.ensures.account, c.cut.ensures.1, c.cut.ensures.2)
