-- One run more.
use Rattle.std.proofs.Common.{arith}
use Rattle.memory.proofs.Putting.{next-run}
use Rattle.memory.proofs.place.next_start_of.Goals as goal

pub loop-part-preserved : goal.loop-part-preserved
loop-part-preserved c =
    record {
      past = c.next_start-next.ensures.past;
      within = omega (arith, c.next_start-next.ensures.within, c.loop-part.invariant.within);
      none = next-run c.args.parts.now c.args.n c.loop-part.next c.next_start-next.result c.loop-part.part-index c.part-item.result c.part-item.is c.loop-part-test.true c.next_start-next.ensures.within c.next_start-next.ensures.none c.loop-part.invariant.none;
    }
