-- All calls begin with none.
use Rattle.std.proofs.Common.{◌++◌, ℕ, List, ap, sym}
use Rattle.explored_runs.proofs.checkpoints.Checkpoints.nearest.Goals as goal

pub returns-clause-way : goal.returns-clause-way
returns-clause-way c = (c.args.calls.now, ap (λ (ps : List ℕ). ps ++ c.args.calls.now) (sym c.new.ensures.items))
