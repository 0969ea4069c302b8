-- The states before these were answered.
use Rattle.std.proofs.Common.{◌≡◌, ◌++◌, ℕ, List, length}
use Rattle.std.specs.Global.{Vec}
use Rattle.state_search.specs.declared.moves.Found.{Found}
use Rattle.explored_runs.specs.Answering.{Expands}
use Rattle.explored_runs.proofs.run_search.RunSearchMoves.expand.Given as goal

abbrev pub invariant-loop-rest : goal.invariant-loop-rest
invariant-loop-rest g l = record {
  done : List (Found (Vec ℕ));
  parted : l.level ≡ done ++ l.rest;
  answered : Expands l.self.runs.now done l.next.items l.is_whole;
  space : l.self.runs.now ≡ l.fn.self.runs.now;
}

abbrev pub decreases-loop-rest : goal.decreases-loop-rest
decreases-loop-rest g l = length l.rest
