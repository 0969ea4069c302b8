-- By induction over the items, each instruction delayed into what comes of the items after it.
use Rattle.kernel_laws.proofs.Gathering.{is_gathered, no_turn}
use Rattle.kernel_laws.proofs.gathered_is.Goals as goal

pub returns : goal.returns
returns _ = record { becomes = is_gathered; fine = no_turn }
