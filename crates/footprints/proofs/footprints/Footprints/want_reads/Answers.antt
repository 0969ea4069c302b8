-- By the kind of the event.
use Rattle.std.proofs.Common.{get_or, refl}
use Rattle.footprints.specs.Kept.{no_footprint}
use Rattle.footprints.proofs.Events.{on_ok, turn_reads, enter_reads, disk_reads}
use Rattle.footprints.proofs.footprints.Footprints.want_reads.Goals as goal

pub returns-in-Turn : goal.returns-in-Turn
returns-in-Turn c =
    on_ok c.add.result _ _ (turn_reads c.args.event c.in-Turn.pid c.in-Turn.n (get_or c.args.self.now.footprints c.args.enters no_footprint) c.args.wanted.now c.add.new.self c.in-Turn.is) c.add.ensures

pub returns-in_ok-add-in-Enter : goal.returns-in_ok-add-in-Enter
returns-in_ok-add-in-Enter c =
    on_ok c.add_all.result _ _
    (enter_reads c.args.event c.in-Enter.pid (get_or c.args.self.now.footprints c.args.enters no_footprint) c.args.wanted.now c.add-in-Enter.new.self c.add_all.new.self c.reads.result.now
    c.in-Enter.is c.reads.ensures c.in_ok-add-in-Enter.ensures)
    c.add_all.ensures

pub returns-in-Cut : goal.returns-in-Cut
returns-in-Cut c = disk_reads c.args.event _ (get_or c.args.self.now.footprints c.args.enters no_footprint) c.args.wanted.now c.in-Cut.is refl

pub returns-in-Complete : goal.returns-in-Complete
returns-in-Complete c = disk_reads c.args.event _ (get_or c.args.self.now.footprints c.args.enters no_footprint) c.args.wanted.now c.in-Complete.is refl

pub returns-in-Fail : goal.returns-in-Fail
returns-in-Fail c = disk_reads c.args.event _ (get_or c.args.self.now.footprints c.args.enters no_footprint) c.args.wanted.now c.in-Fail.is refl
