-- One share goes from the list into the sum.
use Rattle.std.proofs.Common.{rules, ◌≡◌, ◌∙◌, ap, ◌++◌, ◌∷◌, []}
use Rattle.bursts.specs.Holdings.{with_shares}
use Rattle.bursts.proofs.Sharing.{one_more}
use Rattle.bursts.proofs.share.sum_all.Goals as goal

pub loop-share-preserved : goal.loop-share-preserved
loop-share-preserved g c =
    let last : c.loop-share.shares.items ≡ c.pop.new.self.items ++ c.in-Some.share ∷ [] = search rules in
    ap (λ a. with_shares a c.pop.new.self.items) c.merge.ensures ∙ one_more c.loop-share.all c.loop-share.shares.items c.pop.new.self.items c.in-Some.share last ∙ c.loop-share.invariant
