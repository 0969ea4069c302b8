-- A process that has ended has its status.
use Rattle.std.proofs.Common.{sym, ◌∙◌}
use Rattle.run_events.proofs.Growing.{end-is, some-end, none-some}
use Rattle.run_events.proofs.event_record.end_of.Goals as goal

pub returns-in-Some : goal.returns-in-Some
returns-in-Some c = λ k status grown is.
    some-end _ c.in-Some.status status (sym c.in-Some.is ∙ end-is k c.args.core.now c.args.pid status c.tables.result.processes.now.parts c.status.result grown is c.tables.ensures.parts c.status.ensures) is

pub returns-in-None : goal.returns-in-None
returns-in-None c = λ k status grown is.
    none-some status _ (sym c.in-None.is ∙ end-is k c.args.core.now c.args.pid status c.tables.result.processes.now.parts c.status.result grown is c.tables.ensures.parts c.status.ensures)
