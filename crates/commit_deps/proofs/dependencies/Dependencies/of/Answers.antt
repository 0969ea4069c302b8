-- The mark that is kept is that of the log.
use Rattle.std.proofs.Common.{Option, is_some, ℕ, ap, ◌∙◌}
use Rattle.commit_deps.proofs.Keeping.{found-says}
use Rattle.commit_deps.proofs.dependencies.Dependencies.of.Goals as goal

pub returns-clause-written : goal.returns-clause-written
returns-clause-written c log keeps = ap (λ (o : Option ℕ). is_some o) c.kept_mark.ensures ∙ keeps.written c.args.carrier

pub returns-clause-reader : goal.returns-clause-reader
returns-clause-reader c log keeps = found-says log c.args.self.now.marks c.args.carrier keeps c.kept_mark.result c.kept_mark.ensures
