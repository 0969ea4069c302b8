-- Those before this place were digested.
use Rattle.kernel_model.specs.Answers.{now}
use Rattle.kernel_model.specs.Shown.{printed}
use Rattle.kernel_model.specs.Views.{contents}
use Rattle.state_search.specs.Digests.{Fed, text_bytes}
use Rattle.replayed_runs.specs.StateKeys.{upto_bytes}
use Rattle.replayed_runs.proofs.state_key.digest_terminals.Given as goal

abbrev pub invariant-loop-terminal : goal.invariant-loop-terminal
invariant-loop-terminal l = Fed l.fn.digest (upto_bytes (λ t. text_bytes (contents (printed t (now l.core).log))) l.terminal) l.digest
