-- Memories that stand in each other are equal.
use Rattle.std.proofs.Common.{sym, ap}
use Rattle.std.specs.FinMap.{get}
use Rattle.memory_model.specs.Memory.{Memory}
use Rattle.memory_model.proofs.Memories.{same_memory}
use Rattle.memory.proofs.Standing.{both_ways}
use Rattle.memory.proofs.space.Space.is_same.Goals as goal

pub returns-then-is_within : goal.returns-then-is_within
returns-then-is_within c = (
  λ t. same_memory c.args.self.now c.args.other.now (λ q. both_ways _ _ (c.is_within.ensures.0 c.if-is_within.true q) (c.is_within-then-is_within.ensures.0 t q)),
  λ e. c.is_within-then-is_within.ensures.1 (λ a _. ap (λ (m : Memory). get m a) (sym e)),
)
