-- All that was counted grows by one.
use Rattle.std.proofs.Common.{◌≡◌, ◌+◌, arith}
use Rattle.std.specs.Option.{unwrap_or}
use Rattle.std.specs.BTreeMap.{get}
use Rattle.std.specs.Ordering.{nat_cmp}
use Rattle.std.proofs.lemmas.Grind.{common_steps}
use Rattle.exec_records.proofs.Growing.{sum-one_more}
use Rattle.exec_records.proofs.step_counts.StepCounts.add.Goals as goal

pub returns-clause-all : goal.returns-clause-all
returns-clause-all c =
    let old = c.args.self.now.counts in
    let before = c.unwrap_or-before.result in
    let was : before ≡ unwrap_or (get nat_cmp old c.args.address) 0 = grind (arith, common_steps) in
    let more : c.in-Some.count ≡ before + 1 = grind (arith, common_steps) in
    sum-one_more old c.insert.new.self c.args.address before c.in-Some.count c.in_ok-insert.ensures.was_ordered was more c.in_ok-insert.ensures.entries
