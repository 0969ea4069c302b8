-- So many were added.
use Rattle.std.proofs.Common.{◌≡◌, ◌++◌, false}
use Rattle.std.specs.Prelude.{replicate}
use Rattle.order_outcomes.proofs.merging.add_unread.Given as goal

abbrev pub invariant-loop : goal.invariant-loop
invariant-loop l = l.read.items ≡ l.fn.read.items ++ replicate l.counter false
