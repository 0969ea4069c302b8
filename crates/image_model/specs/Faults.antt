-- The numbers of faults.
use Rattle.std.specs.Prelude.{ℕ}
use Rattle.image_model.specs.declared.fault.ElfFault.{ElfFault}
use Rattle.image_model.specs.declared.fault.ElfFault.TheVariants.{Short, BadMagic, BadIdent, BadKind, BadHeader, ShortTable, BadSegment, BadSize, PastEnd, BadRange, Overlap, BadEntry, OutOfMemory}

abbrev pub number_of : ElfFault → ℕ
number_of Short = 1
number_of BadMagic = 2
number_of BadIdent = 3
number_of BadKind = 4
number_of BadHeader = 5
number_of ShortTable = 6
number_of BadSegment = 7
number_of BadSize = 8
number_of PastEnd = 9
number_of BadRange = 10
number_of Overlap = 11
number_of BadEntry = 12
number_of OutOfMemory = 13
