-- There are more processes where one was made.
use Rattle.std.proofs.Common.{◌∙◌, ap, length, List, arith}
use Rattle.std.proofs.lemmas.List.{length-map}
use Rattle.processes.specs.Parts.{Part, part_of}
use Rattle.kernel_model.specs.Answers.{now}
use Rattle.run_events.proofs.Growing.{child-is, no-child-is}
use Rattle.run_events.proofs.event_record.child_since.Goals as goal

pub returns-then-processes-count : goal.returns-then-processes-count
returns-then-processes-count c = λ k e grown was.
    child-is k c.args.core.now e c.len-count.result c.args.processes grown was
    (c.len-count.ensures.count ∙ ap (λ (ps : List Part). length ps) c.tables.ensures.parts ∙ length-map (now c.args.core.now).sync.processes part_of)
    c.if-processes-count.true

pub returns-else-processes-count : goal.returns-else-processes-count
returns-else-processes-count c = λ k e grown was.
    no-child-is k c.args.core.now e c.len-count.result c.args.processes grown was
    (c.len-count.ensures.count ∙ ap (λ (ps : List Part). length ps) c.tables.ensures.parts ∙ length-map (now c.args.core.now).sync.processes part_of)
    (λ more. omega (arith, c.if-processes-count.false, more))
