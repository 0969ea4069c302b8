-- Both begin what they come to together, and the receipt is no longer.
use Rattle.std.proofs.Common.{◌≤◌, ap, subst, arith, length, List}
use mathlib.Core.List.{IsPrefix}
use Rattle.notes.proofs.Prefixes.{prefix_shorter, at_most}
use Rattle.notes.proofs.log.Log.has.Goals as goal

pub returns : goal.returns
returns g c le =
    let both = c.learn.new.self.log in
    let mine : IsPrefix c.self.inside.seen.log both = subst (λ (l : List g.row.E.Denot). IsPrefix l both) (ap (λ s. s.log) c.again-both.ensures) c.learn.ensures.2 in
    let less : length c.receipt.inside.seen.log ≤ length c.self.inside.seen.log = omega (arith, c.receipt.invariant.0, c.self.invariant.0, at_most c.receipt.inside.len c.self.inside.len le) in
    rw (← c.receipt.view_is, ← c.self.view_is) (prefix_shorter c.receipt.inside.seen.log c.self.inside.seen.log both c.learn.ensures.3 mine less)
