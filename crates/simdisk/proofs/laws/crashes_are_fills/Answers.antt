-- A crash is what some fill leaves.
use Rattle.simdisk.proofs.Crashes.{fill_of}
use Rattle.simdisk.proofs.laws.crashes_are_fills.Goals as goal

pub returns : goal.returns
returns c = fill_of
