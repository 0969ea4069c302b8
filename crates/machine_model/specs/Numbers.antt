-- The numbers of causes of a trap.
use Rattle.std.specs.Prelude.{ℕ}
use Rattle.machine_model.specs.declared.stop.Cause.{Cause}
use Rattle.machine_model.specs.declared.stop.Cause.TheVariants as cause

abbrev pub cause_number : Cause → ℕ
cause_number cause.Illegal = 1
cause_number cause.MisalignedTarget = 2
cause_number cause.MisalignedData = 3
cause_number cause.PageFault = 4
cause_number cause.FetchFault = 5
cause_number cause.Breakpoint = 6
