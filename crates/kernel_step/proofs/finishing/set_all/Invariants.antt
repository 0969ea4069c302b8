-- The later slots are left.
use Rattle.std.proofs.Common.{◌≡◌, drop}
use Rattle.processes.specs.Parts.{part_at, with_part, with_slots}
use Rattle.kernel_step.proofs.finishing.set_all.Given as goal

abbrev pub invariant-loop-slot : goal.invariant-loop-slot
invariant-loop-slot l =
    with_part l.processes.parts l.pid (part_at l.processes.parts l.pid) (with_slots (drop l.slot-index l.slots))
    ≡ with_part l.initial.processes.parts l.pid (part_at l.initial.processes.parts l.pid) (with_slots l.slots)
