-- One slot more is set, and in the end all.
use Rattle.kernel_step.proofs.Performing.{slots-set, slots-none}
use Rattle.kernel_step.proofs.finishing.set_all.Goals as goal

pub loop-slot-preserved : goal.loop-slot-preserved
loop-slot-preserved c =
    slots-set c.loop-slot.processes.parts c.set.new.self.parts _ c.args.pid c.args.slots.now c.loop-slot.slot-index _ c.loop-slot-test.true c.set.ensures.exact c.loop-slot.invariant

pub returns : goal.returns
returns c = slots-none c.loop-slot.processes.parts _ c.args.pid c.args.slots.now c.loop-slot.slot-index c.loop-slot-test.false c.loop-slot.invariant
