-- Each part is a lemma.
use Rattle.footprints.proofs.Logs.{none_kept, turn_kept, enter_kept, disk_kept}
use Rattle.footprints.proofs.laws.footprints_grow.Goals as goal

pub returns : goal.returns
returns _ = record { none = none_kept; turn = turn_kept; enter = enter_kept; disk = disk_kept }
