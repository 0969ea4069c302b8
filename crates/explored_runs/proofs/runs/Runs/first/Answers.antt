-- The run of no calls was replayed, and has its key.
use Rattle.explored_runs.proofs.runs.Runs.first.Goals as goal

pub returns : goal.returns
returns c = record { calls = c.new.ensures.items; key = (c.in_ok-start.start, c.in_ok-start.ensures, c.key_of.ensures) }
