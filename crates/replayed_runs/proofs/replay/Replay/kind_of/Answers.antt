-- A call that is taken as private is private, and prints nothing that is promised.
use Rattle.calls.specs.Sights.{sight_of}
use Rattle.kernel_model.specs.declared.event.Event.TheVariants.{Enter}
use Rattle.order_laws.specs.Moves.{label_in}
use Rattle.replayed_runs.proofs.Promising.{prints_nothing}
use Rattle.replayed_runs.proofs.Taking.{is_private_call}
use Rattle.replayed_runs.proofs.replay.Replay.kind_of.Goals as goal

pub returns-then-is_private-clause-rightly : goal.returns-then-is_private-clause-rightly
returns-then-is_private-clause-rightly c = λ k is works goes.
    is_private_call k c.args.pid c.args.self.now.core c.last_reads.result.now c.args.terminal (sight_of c.tables.result) c.footprints.result.now.footprints
    is works goes c.tables.ensures c.footprints.ensures c.last_reads.ensures (c.is_private.ensures c.if-is_private.true)

pub returns-then-is_private-clause-promised : goal.returns-then-is_private-clause-promised
returns-then-is_private-clause-promised c = λ s promises goes.
    prints_nothing c.args.terminal (label_in s (Enter c.args.pid)).output (c.is_kept.ensures c.if-is_kept.false promises) goes
