-- The terminal on which more stands is the output's.
use Rattle.std.proofs.Common.{arith}
use Rattle.run_events.proofs.Growing.{printed-is, unprinted-is}
use Rattle.kernel_model.specs.Answers.{now}
use Rattle.run_events.proofs.event_record.output_since.Goals as goal

pub returns-then-before-written : goal.returns-then-before-written
returns-then-before-written c = λ log x grown were.
    printed-is (now c.args.core.now).log log x c.loop-terminal.terminal c.args.lengths.now c.written-written.result.now c.bytes_after.result.now grown were
    c.loop-terminal-test.true c.written-written.ensures c.if-before-written.true c.bytes_after.ensures

pub returns : goal.returns
returns c = λ log x grown were.
    unprinted-is (now c.args.core.now).log log x c.loop-terminal.terminal c.args.lengths.now grown were (omega (arith, c.loop-terminal-test.false)) c.loop-terminal.invariant
