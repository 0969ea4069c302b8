-- The footprint that was kept last is the Enter's.
use Rattle.run_events.proofs.Growing.{enter-footprint, other-footprint}
use Rattle.run_events.proofs.event_record.touched_by.Goals as goal

pub returns-in-Enter : goal.returns-in-Enter
returns-in-Enter c = λ k grown.
    enter-footprint k c.args.core.now c.args.event c.in-Enter.pid c.footprints-footprints.result.now.footprints c.touched_last.result.reads.now c.touched_last.result.writes.now
    c.in-Enter.is grown c.footprints-footprints.ensures c.touched_last.ensures.reads c.touched_last.ensures.writes

pub returns-in_default : goal.returns-in_default
returns-in_default c = λ k grown. other-footprint k c.args.core.now c.args.event c.footprints-footprints.result.now.footprints c.in_default.not-Enter grown c.footprints-footprints.ensures
