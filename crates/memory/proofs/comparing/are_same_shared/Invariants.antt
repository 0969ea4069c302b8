-- The shared parts so far are the same.
use Rattle.std.proofs.Common.{◌≡◌, take, map}
use Rattle.memory.proofs.comparing.are_same_shared.Given as goal

abbrev pub invariant-loop-i : goal.invariant-loop-i
invariant-loop-i l = take l.i (map (λ a. a.value) l.parts) ≡ take l.i (map (λ a. a.value) l.others)
