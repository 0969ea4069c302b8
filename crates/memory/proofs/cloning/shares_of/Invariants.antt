-- What is shared so far.
use Rattle.std.proofs.Common.{◌≡◌, take, map}
use Rattle.memory.proofs.cloning.shares_of.Given as goal

abbrev pub invariant-loop-part : goal.invariant-loop-part
invariant-loop-part l =
    map (λ a. a.value) l.shares.items ≡ take l.part-index (map (λ a. a.value) l.parts)
