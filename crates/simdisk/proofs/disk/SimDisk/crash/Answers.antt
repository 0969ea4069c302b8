-- Nothing is in flight on the disk that is left, and its size stays.
use Rattle.std.proofs.Common.{arith, subst, sym, ◌∙◌}
use Rattle.std.proofs.lemmas.Grind.{common_steps}
use Rattle.simdisk.specs.Room.{LieOn}
use Rattle.simdisk.proofs.disk.SimDisk.crash.Goals as goal

pub invariant_of-self : goal.invariant_of-self
invariant_of-self c = (
  c.leave_crashed.ensures.size ∙ c.self.invariant.0,
  subst (LieOn 2097152) (sym c.new.ensures.items) tt,
  subst (LieOn 2097152) (sym c.new-2.ensures.items) tt,
)

-- Without an answer this would be proved too; with one, an edit that breaks it is refused sooner.
pub returns : goal.returns
returns c = grind (arith, common_steps)
