-- The end stands in the notes where it was accepted.
use Rattle.std.proofs.Common.{rules}
use Rattle.run_threads.proofs.CoreCalls.{end_told, end_refused, on_err}
use Rattle.run_threads.proofs.desk.LockedDeskStagedCore.tell.Goals as goal

pub returns-in_err-ask-clause-err : goal.returns-in_err-ask-clause-err
returns-in_err-ask-clause-err g c =
    on_err c.from_residual.result (end_refused c.args.self.now.notes c.ask.new.account.notes c.end_of-event.result c.ask.result _ (search rules) c.in_err-ask.was)

pub returns-clause-ok : goal.returns-clause-ok
returns-clause-ok g c =
    end_told c.args.self.now.notes c.ask.new.account.notes c.end_of-event.result c.ask.result _ c.args.is_complete c.args.at (search rules) c.end_of-event.ensures c.in_ok-ask.was
