-- A moment that was found is one of the cell.
use Rattle.std.specs.Prelude.{IfSome}
use Rattle.crash_lists.specs.Rules.{IsCellAt}
use Rattle.crash_lists.proofs.moments.FileNear.moment_of_cell.Given as goal

abbrev pub invariant-loop-moment : goal.invariant-loop-moment
invariant-loop-moment l = IfSome l.found (IsCellAt l.self.file.model l.self.file.window.now.moments.items l.self.file.number l.size l.bytes l.cell)
