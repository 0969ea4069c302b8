-- The processes so far are copied.
use Rattle.std.proofs.Common.{◌≡◌, take, map}
use Rattle.processes.specs.Entries.{Entry}
use Rattle.processes.proofs.table.ProcTable.try_clone.Given as goal

abbrev pub invariant-loop-entry : goal.invariant-loop-entry
invariant-loop-entry l =
    map (λ (e : Entry). e.part) l.entries.items ≡ take l.entry-index l.self.parts
