-- One by one.
use Rattle.footprints.proofs.Same.{adding-next}
use Rattle.footprints.proofs.wanted.Wanted.add_all.Goals as goal

pub loop-carrier-preserved : goal.loop-carrier-preserved
loop-carrier-preserved c =
    adding-next c.args.carriers.now c.loop-carrier.carrier-index _ c.args.self.now c.loop-carrier.self c.add.new.self c.loop-carrier-test.true c.loop-carrier.invariant c.in_ok-add.ensures
