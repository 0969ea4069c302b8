-- What a fill leaves is a crash.
use Rattle.simdisk.proofs.Crashes.{crash_of}
use Rattle.simdisk.proofs.laws.fills_are_crashes.Goals as goal

pub returns : goal.returns
returns c = crash_of
