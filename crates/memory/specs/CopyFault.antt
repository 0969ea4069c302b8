-- Why bytes are not copied.
use Rattle.std.specs.Prelude.{ℕ, List, Option, Some, None, Result, Ok, Err}
use Rattle.memory_model.specs.declared.access.BusFault.{BusFault}
use Rattle.memory.specs.declared.fault.CopyFault.{CopyFault}
use Rattle.memory.specs.declared.fault.CopyFault.TheVariants.{Fault, OutOfMemory}

-- the fault that a copy is refused with
abbrev pub fault_of : Result (List ℕ) CopyFault → Option BusFault
fault_of (Ok bytes) = None
fault_of (Err (Fault fault)) = Some fault
fault_of (Err OutOfMemory) = None
