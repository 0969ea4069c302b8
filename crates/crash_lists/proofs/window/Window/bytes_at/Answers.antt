-- A moment at which the file does not live is skipped.
use Rattle.std.proofs.Common.{arith, rules, ◌≡◌, ◌-◌, ℕ, None, subst}
use Rattle.crash_lists.specs.Rules.{living_at}
use Rattle.crash_lists.proofs.Lived.{skipped}
use Rattle.crash_lists.proofs.window.Window.bytes_at.Goals as goal

pub loop-back-preserved : goal.loop-back-preserved
loop-back-preserved c =
    let window = c.args.self.now.moments.items in
    let at : c.saturating_sub.result ≡ c.args.moment - c.loop-back.back = omega arith in
    let none : living_at window c.args.number c.saturating_sub.result ≡ None = search rules in
    skipped window c.args.number c.args.moment c.loop-back.back (omega arith) (subst (λ (t : ℕ). living_at window c.args.number t ≡ None) at none) c.loop-back.invariant
