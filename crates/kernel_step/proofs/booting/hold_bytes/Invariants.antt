-- The tapes so far hold bytes.
use Rattle.std.proofs.Common.{ℕ, List, ◌<◌, take}
use Rattle.std.specs.List.{AllByRecursion}
use Rattle.kernel_step.proofs.booting.hold_bytes.Given as goal

abbrev pub invariant-loop-tape : goal.invariant-loop-tape
invariant-loop-tape l = AllByRecursion (λ (tape : List ℕ). AllByRecursion (λ (byte : ℕ). byte < 256) tape) (take l.tape-index l.tapes)
