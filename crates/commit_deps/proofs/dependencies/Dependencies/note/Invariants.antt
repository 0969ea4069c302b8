-- The carriers so far are noted, and there is room for those of the others that no event wrote.
use Rattle.commit_deps.proofs.Keeping.{Noting}
use Rattle.commit_deps.proofs.dependencies.Dependencies.note.Given as goal

abbrev pub invariant-loop-carrier : goal.invariant-loop-carrier
invariant-loop-carrier l = Noting l.writes l.mark l.fn.self l.carrier-index l.self
