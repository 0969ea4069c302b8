-- The numbers of faults.
use Rattle.std.specs.Prelude.{ℕ}
use Rattle.debugger.specs.declared.fault.DebugFault.{DebugFault}
use Rattle.debugger.specs.declared.fault.DebugFault.TheVariants.{PastTrace, BreakTableFull, OutOfMemory, NoSuchBreak, Budget}

abbrev pub number_of : DebugFault → ℕ
number_of PastTrace = 1
number_of BreakTableFull = 2
number_of OutOfMemory = 3
number_of NoSuchBreak = 4
number_of Budget = 5
