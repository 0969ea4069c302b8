-- The limits of a core keep its totals small.
use Rattle.bursts.proofs.Adding.{fits}
use Rattle.bursts.proofs.share.Books.enter.Goals as goal

pub grow-requires : goal.grow-requires
grow-requires g c = fits _ _ c.keeps_limits.ensures c.requires
