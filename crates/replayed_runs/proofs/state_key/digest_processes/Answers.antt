-- How many there are, and each.
use Rattle.std.proofs.Common.{◌∙◌, ℕ, ◌+◌, List, length, ap}
use Rattle.kernel_model.specs.Answers.{now}
use Rattle.state_search.specs.Digests.{number_bytes}
use Rattle.replayed_runs.specs.StateKeys.{process_bytes, upto_bytes}
use Rattle.replayed_runs.proofs.Feeding.{fed_as, fed_both}
use Rattle.replayed_runs.proofs.state_key.digest_processes.Goals as goal

pub returns : goal.returns
returns c =
    let r = c.args.replay.now in
    let processes = (now r.core).sync.processes in
    let f : ℕ → List ℕ = λ k. process_bytes processes r.replies.sums.items c.args.tables.processes.now.parts (k + 1) in
    let d0 = c.args.digest.now in
    let d1 = c.number.new.self in
    let d2 = c.digest_each_process.new.digest in
    fed_both d0 d1 d2 (number_bytes (length processes)) (upto_bytes f (length processes)) (fed_as d0 d1 _ _ (ap number_bytes (c.from.ensures ∙ c.last_process-last.ensures)) c.number.ensures)
    (fed_as d1 d2 _ _ (ap (λ n. upto_bytes f n) c.last_process-last.ensures) c.digest_each_process.ensures)
