-- One more is digested.
use Rattle.std.proofs.Common.{ap}
use Rattle.kernel_model.specs.Answers.{now}
use Rattle.kernel_model.specs.Shown.{printed}
use Rattle.kernel_model.specs.Views.{contents}
use Rattle.state_search.specs.Digests.{text_bytes}
use Rattle.replayed_runs.proofs.Feeding.{fed_as, fed_more}
use Rattle.replayed_runs.proofs.state_key.digest_terminals.Goals as goal

pub loop-terminal-preserved : goal.loop-terminal-preserved
loop-terminal-preserved c =
    fed_more c.args.digest.now c.loop-terminal.digest c.bytes.new.self (λ t. text_bytes (contents (printed t (now c.args.core.now).log))) c.loop-terminal.terminal c.loop-terminal.invariant (fed_as c.loop-terminal.digest c.bytes.new.self _ _ (ap text_bytes c.written.ensures) c.bytes.ensures)
