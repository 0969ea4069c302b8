-- Without a file: the write that begins first.
use Rattle.std.proofs.lemmas.Result.{err_from_is_err_and}
use Rattle.run_threads.proofs.CoreCalls.{none_first}
use Rattle.run_threads.proofs.Turning.{no_record, nothing_first, refused_first, told_first}
use Rattle.run_threads.proofs.committing.CommitThread.complete.Goals as goal

pub returns-in_default-in_flight : goal.returns-in_default-in_flight
returns-in_default-in_flight g c =
    let desk = c.self.inside.desk in
    let asked = c.in_flight.new.self in
    rw (← c.self.view_is) (nothing_first desk.notes asked.notes asked.notes _ _ c.self.inside.completions (no_record _ _ c.in_default.not-Some)
    (none_first desk asked c.in_flight.result c.in_flight.ensures.account))

pub returns-in_err-tell : goal.returns-in_err-tell
returns-in_err-tell g c =
    let desk = c.self.inside.desk in
    let asked = c.in_flight.new.self in
    let p = err_from_is_err_and c.from_residual.result c.from_residual.ensures.1 in
    rw (p.1, ← c.self.view_is) (refused_first desk.notes asked.notes c.tell.new.self.notes _ c.self.inside.completions _ (no_record _ _ c.in_default.not-Some)
    (none_first desk asked c.in_flight.result c.in_flight.ensures.account) _ c.in_err-tell.ensures.err)

pub returns : goal.returns
returns g c =
    let desk = c.self.inside.desk in
    let asked = c.in_flight.new.self in
    let counted = c.is_complete-is_complete in
    rw (← c.self.view_is) (told_first desk.notes asked.notes c.tell.new.self.notes _ c.self.inside.completions _ (no_record _ _ c.in_default.not-Some)
    (none_first desk asked c.in_flight.result c.in_flight.ensures.account) c.in-Some-in_flight.at counted.result c.in_ok-tell.ensures.ok counted.ensures.complete counted.ensures.left)
