-- The trap at which a state stands.
use Rattle.std.specs.Prelude.{Option, Some, None}
use Rattle.machine_model.specs.declared.stop.Cause.{Cause}
use Rattle.machine_model.specs.declared.stop.Stop.{Stop}
use Rattle.machine_model.specs.declared.stop.Stop.TheVariants.{Limit, Call, Trap}

-- the cause of a stop, where it is a trap
abbrev pub cause_in : Option Stop → Option Cause
cause_in None = None
cause_in (Some Limit) = None
cause_in (Some Call) = None
cause_in (Some (Trap cause)) = Some cause
