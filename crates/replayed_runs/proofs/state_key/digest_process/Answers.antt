-- Its machine, its replies, its descriptors, its children, and how it ended.
use Rattle.std.proofs.Common.{ap}
use Rattle.kernel_model.specs.Answers.{now}
use Rattle.kernel_model.specs.Rows.{status_in}
use Rattle.kernel_model.specs.State.{process_at}
use Rattle.processes.specs.Parts.{children_in, descriptors_in, part_at, statuses_of}
use Rattle.state_search.specs.Digests.{option_bytes, sum_bytes}
use Rattle.replayed_runs.specs.StateKeys.{children_bytes, machine_bytes, slots_bytes, sum_in}
use Rattle.replayed_runs.proofs.Feeding.{fed_as, fed_both}
use Rattle.replayed_runs.proofs.state_key.digest_process.Goals as goal

pub returns : goal.returns
returns c =
    let r = c.args.replay.now in
    let pid = c.args.pid in
    let parts = c.args.tables.processes.now.parts in
    let d0 = c.args.digest.now in
    let d1 = c.digest_machine.new.digest in
    let d2 = c.sum.new.self in
    let d3 = c.digest_descriptors.new.digest in
    let d4 = c.digest_children.new.digest in
    let d5 = c.option_word.new.self in
    fed_both d0 d1 d5 (machine_bytes (process_at (now r.core).sync.processes pid)) _ c.digest_machine.ensures
    (fed_both d1 d2 d5 (sum_bytes (sum_in r.replies.sums.items pid)) _ (fed_as d1 d2 _ _ (ap sum_bytes c.of.ensures) c.sum.ensures)
    (fed_both d2 d3 d5 (slots_bytes (descriptors_in (part_at parts pid))) _ c.digest_descriptors.ensures
    (fed_both d3 d4 d5 (children_bytes (children_in (part_at parts pid))) (option_bytes (status_in (statuses_of parts) pid))
    (fed_as d3 d4 _ _ (ap children_bytes c.children.ensures) c.digest_children.ensures)
    (fed_as d4 d5 _ _ (ap option_bytes c.status.ensures) c.option_word.ensures))))
