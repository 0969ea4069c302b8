use Rattle.std.proofs.Common.{◌≡◌, drop}
use Rattle.kernel_model.specs.Rows.{first_ended}
use Rattle.processes.specs.Parts.{statuses_of}
use Rattle.processes.proofs.table.ProcTable.ended_child.Given as goal

-- none of the children so far has ended
abbrev pub invariant-loop-child : goal.invariant-loop-child
invariant-loop-child l =
    first_ended (statuses_of l.self.parts) (drop l.child-index l.children) ≡ first_ended (statuses_of l.self.parts) l.children
