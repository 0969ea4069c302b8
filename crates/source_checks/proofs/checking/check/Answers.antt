-- A fault whose cause is not that memory ran out is not the one that says so.
use Rattle.std.proofs.Common.{ap}
use Rattle.assembler.specs.declared.fault.AsmFault.{AsmFault}
use Rattle.source_checks.proofs.checking.check.Goals as goal

pub returns-in_default : goal.returns-in_default
returns-in_default c = c.in-Err.ensures.refused (λ same. c.in_default.not-OutOfMemory (ap (λ (fault : AsmFault). fault.why) same))
