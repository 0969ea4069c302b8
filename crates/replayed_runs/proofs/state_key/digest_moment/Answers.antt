-- The files at a moment, or nothing.
use Rattle.replayed_runs.proofs.Feeding.{fed_none}
use Rattle.replayed_runs.proofs.state_key.digest_moment.Goals as goal

pub returns-in-Some : goal.returns-in-Some
returns-in-Some c = (_, c.digest_files.ensures)

pub returns-in-None : goal.returns-in-None
returns-in-None c = (_, fed_none c.args.digest.now)
