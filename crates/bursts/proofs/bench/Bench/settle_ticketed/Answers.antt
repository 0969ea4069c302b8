-- The books grow by what the result adds, and the pair does not fall.
use Rattle.std.proofs.Common.{◌∙◌, ℕ, ap}
use Rattle.bursts.specs.Totals.{settled_totals}
use Rattle.crossbeam_utils.specs.Seq.{cell_view}
use Rattle.kernel_step.specs.Loaned.{loan_result}
use Rattle.bursts.proofs.Adding.{result_adds}
use Rattle.bursts.proofs.Publishing.{result_rises}
use Rattle.bursts.proofs.bench.Bench.settle_ticketed.Goals as goal

pub settle_by_ticket-requires : goal.settle_by_ticket-requires
settle_by_ticket-requires g c = c.self.invariant.4

pub enter-requires : goal.enter-requires
enter-requires g c =
    let e = c.in_ok-answer.ensures.settles in
    result_adds c.self.inside.core _ (loan_result c.args.done) _ _ _ c.self.invariant.3 e.events e.answer e.ran (c.totals_of_result.ensures ∙ ap (λ (p : ℕ). settled_totals p c.in_ok-answer.answer) c.pid-pid.ensures)

pub publish-requires : goal.publish-requires
publish-requires g c =
    let law = c.counts_never_fall.ensures in
    let e = c.in_ok-answer.ensures.settles in
    record {
      board = c.self.invariant.0;
      publishes = c.self.invariant.1;
      rises = result_rises law.committed law.changes (cell_view c.self.inside.writer.pass) c.self.inside.core _ (loan_result c.args.done) c.self.invariant.2 e.events;
    }
