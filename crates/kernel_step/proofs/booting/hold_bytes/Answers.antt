-- One tape more holds bytes, and in the end all.
use Rattle.std.proofs.Common.{ℕ, List, ◌<◌, subst, arith}
use Rattle.std.specs.List.{AllByRecursion}
use Rattle.kernel_step.proofs.Lists.{all-more, all-taken}
use Rattle.kernel_step.proofs.booting.hold_bytes.Goals as goal

abbrev IsTape : List ℕ → Type 0
IsTape tape = AllByRecursion (λ (byte : ℕ). byte < 256) tape

pub loop-tape-preserved : goal.loop-tape-preserved
loop-tape-preserved c =
    all-more IsTape c.args.tapes.now c.loop-tape.tape-index c.tape-item.result c.loop-tape-test.true c.tape-item.is c.loop-tape.invariant
    (subst IsTape c.as_slice.ensures c.are_bytes.ensures)

pub returns : goal.returns
returns c = all-taken IsTape c.args.tapes.now c.loop-tape.tape-index (omega arith) c.loop-tape.invariant
