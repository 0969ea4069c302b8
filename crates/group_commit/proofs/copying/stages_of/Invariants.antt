-- The stages so far are copied.
use Rattle.std.proofs.Common.{◌≡◌, take}
use Rattle.group_commit.specs.Stages.{items_of}
use Rattle.group_commit.proofs.copying.stages_of.Given as goal

abbrev pub invariant-loop-stage : goal.invariant-loop-stage
invariant-loop-stage l = items_of l.copies.items ≡ take l.stage-index (items_of l.stages)
