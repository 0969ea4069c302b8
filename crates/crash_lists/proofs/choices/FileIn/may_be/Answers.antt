-- The rule allows it by one change more.
use Rattle.std.proofs.Common.{ℕ, true, ◌≡◌, rules}
use Rattle.crash_lists.specs.Rules.{AreBy}
use Rattle.crash_lists.proofs.Lived.{below_next}
use Rattle.crash_lists.proofs.choices.FileIn.may_be.Goals as goal

pub loop-change-preserved : goal.loop-change-preserved
loop-change-preserved c =
    let file = c.args.self.now in
    let holds : c.allows.result ≡ true = search rules in
    below_next (λ (u : ℕ). AreBy file.model file.window.now.moments.items u file.number c.args.size c.args.moment c.args.cell) c.loop-change.change c.loop-change.invariant (c.allows.ensures holds)
