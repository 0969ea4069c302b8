-- The law of crashes of the disk, at the moves that the events are.
use Rattle.kernel_laws.proofs.DiskLaws.{DiskLaws}
use Rattle.kernel_laws.proofs.Crashing.{crash_keeps}
use Rattle.kernel_laws.proofs.crashes_keep_the_committed.Goals as goal

pub returns : goal.returns
returns c b es held programs tapes =
    let laws : DiskLaws = record {
      crashes = c.crashes.ensures;
      made = c.held_files_are_made.ensures;
      change = c.made_files_change.ensures;
      rebuilt = c.checkpoints_fit.ensures;
      bytes = c.made_files_hold_bytes.ensures;
      possible = λ files first after f g. (c.changes_come_in_turn.ensures.possible files first after).1 (f, g);
    } in
    crash_keeps laws b es held programs tapes
