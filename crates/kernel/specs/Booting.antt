-- What a core is booted from.
use Rattle.std.specs.Prelude.{ℕ, List}
use Rattle.journal.specs.Faults.{IsFault, number_of as fault_number}
use Rattle.journal.specs.declared.fault.DiskFault.{DiskFault}
use Rattle.journal.specs.declared.fault.DiskFault.TheVariants as fault
use Rattle.kernel_model.specs.World.{Boot}
use Rattle.kernel_step.specs.Booting.{boot_with}
use Rattle.kernel.specs.declared.boot.BootFault.{BootFault}
use Rattle.kernel.specs.declared.boot.BootFault.TheVariants.{Disk, OutOfMemory}
use Rattle.kernel.specs.declared.cores.Booted.{Booted}

-- what a core was booted from
abbrev pub boot_of : Booted → Boot
boot_of b = boot_with b.programs.items b.tapes.value.items b.files b.disk.value.items b.gate

-- what a boot answers where the disk cannot be read: its fault, unless that is want of memory
abbrev pub boot_fault : DiskFault → BootFault
boot_fault fault.OutOfMemory = OutOfMemory
boot_fault fault.BadRecord = Disk fault.BadRecord
boot_fault fault.BadChange = Disk fault.BadChange
boot_fault fault.PastHalf = Disk fault.PastHalf

-- a refused boot tells the disk's first fault, or want of memory
abbrev pub TellsBootFault : List ℕ → BootFault → Type 0
TellsBootFault disk (Disk fault) = IsFault disk fault
TellsBootFault disk OutOfMemory = Unit {0}

-- its number
abbrev pub number_of : BootFault → ℕ
number_of (Disk fault) = fault_number fault
number_of OutOfMemory = 4
