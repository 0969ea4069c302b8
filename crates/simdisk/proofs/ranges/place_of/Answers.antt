-- The place of the first piece that begins there.
use Rattle.std.proofs.Common.{◌≡◌, true, false, rules, tests}
use Rattle.std.proofs.lemmas.Iterator.{YieldsList-from_slice, IsFirst-from_position}
use Rattle.simdisk.proofs.Lists.{begins, place_is}
use Rattle.simdisk.proofs.ranges.place_of.Goals as goal

pub returns : goal.returns
returns c =
    let first = IsFirst-from_position _ _ c.position.result (λ p. begins c.args.at p ≡ true) (λ p. begins c.args.at p ≡ false) c.position.ensures.ran (YieldsList-from_slice c.args.pieces.now cc) (λ x q k. search (rules, tests)) (λ x q k. search (rules, tests)) in
    let is = place_is c.args.pieces.now c.args.at c.position.result first in record { found = is.0; none = is.1 }
