-- One more change is spelled.
use Rattle.std.proofs.Common.{◌++◌, ap, ◌∙◌, List, ℕ, drop, ◌+◌}
use Rattle.disk_model.specs.declared.change.Change.{Change}
use Rattle.disk_model.specs.Spelling.{spelling, body_of}
use Rattle.journal.proofs.Bodies.{body_more, body_end, formed_at, formed_more}
use Rattle.journal.proofs.writing.body_of.Goals as goal

pub push_change-requires : goal.push_change-requires
push_change-requires c = formed_at c.args.changes.now c.loop-change.change-index c.change-item.result c.change-item.is c.loop-change-test.true c.loop-change.invariant.formed

pub loop-change-preserved : goal.loop-change-preserved
loop-change-preserved c = record {
  text =
      ap (λ (l : List ℕ). l ++ body_of (drop (c.loop-change.change-index + 1) c.args.changes.now)) (c.in_ok-push_change.ensures ∙ ap (λ (x : Change). c.loop-change.out.items ++ spelling x) c.change-item.is)
      ∙ body_more c.loop-change.out.items c.args.changes.now c.loop-change.change-index c.change-item.result (body_of c.args.changes.now) c.loop-change-test.true c.loop-change.invariant.text;
  formed = formed_more c.args.changes.now c.loop-change.change-index c.change-item.result c.loop-change-test.true c.loop-change.invariant.formed;
}

pub returns : goal.returns
returns c = body_end c.loop-change.out.items c.args.changes.now c.loop-change.change-index (body_of c.args.changes.now) c.loop-change-test.false c.loop-change.invariant.text
