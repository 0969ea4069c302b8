-- The numbers of refusals.
use Rattle.std.specs.Prelude.{ℕ}
use Rattle.kernel_model.specs.declared.answer.Refused.{Refused}
use Rattle.kernel_model.specs.declared.answer.Refused.TheVariants.{NoProcess, Ended, Lent, NotStopped, GroupInFlight, NothingToCut, NoSuchWrite, DiskFailed, OutOfMemory, Stranger, Budget}

abbrev pub number_of : Refused → ℕ
number_of NoProcess = 1
number_of Ended = 2
number_of Lent = 3
number_of NotStopped = 4
number_of GroupInFlight = 5
number_of NothingToCut = 6
number_of NoSuchWrite = 7
number_of DiskFailed = 8
number_of OutOfMemory = 9
number_of Stranger = 10
number_of Budget = 11
