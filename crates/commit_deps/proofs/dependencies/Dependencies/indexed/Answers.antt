-- The index says where the carrier stands.
use Rattle.std.proofs.Common.{rules}
use Rattle.commit_deps.proofs.dependencies.Dependencies.indexed.Goals as goal

pub returns : goal.returns
returns c =
    search (rules, c.self.invariant.0)
