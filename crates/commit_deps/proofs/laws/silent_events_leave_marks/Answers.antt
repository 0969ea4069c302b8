-- The law is a lemma.
use Rattle.commit_deps.proofs.Keeping.{keeps-silent}
use Rattle.commit_deps.proofs.laws.silent_events_leave_marks.Goals as goal

pub returns : goal.returns
returns c = keeps-silent
