-- Runs go on from the disks that crashes leave.
use Rattle.kernel_laws.proofs.Resuming.{goes-on, is-held, chain}
use Rattle.kernel_laws.proofs.runs_go_on.Goals as goal

pub returns-clause-held : goal.returns-clause-held
returns-clause-held c = is-held c.crashes_keep_the_committed.ensures

pub returns-clause-next : goal.returns-clause-next
returns-clause-next c = goes-on c.held_once.ensures c.crashes_keep_the_committed.ensures

pub returns-clause-chain : goal.returns-clause-chain
returns-clause-chain c = chain c.held_once.ensures c.crashes_keep_the_committed.ensures c.changes_come_in_turn.ensures.files
