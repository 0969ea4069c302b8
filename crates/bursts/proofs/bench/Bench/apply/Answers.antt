-- The books grow by what the event adds, the pair does not fall, and what was known stays known.
use Rattle.std.proofs.Common.{rules}
use Rattle.crossbeam_utils.specs.Seq.{cell_view}
use Rattle.bursts.proofs.Adding.{event_adds}
use Rattle.bursts.proofs.Publishing.{event_rises}
use Rattle.bursts.proofs.Tickets.{known_stay}
use Rattle.bursts.proofs.bench.Bench.apply.Goals as goal

pub enter-requires : goal.enter-requires
enter-requires g c =
    let e = c.in_ok-answer.ensures in
    event_adds c.self.inside.core _ c.args.event _ _ _ c.self.invariant.3 e.applies.1 e.applies.2 e.ran c.totals_of_event.ensures

pub publish-requires : goal.publish-requires
publish-requires g c =
    let law = c.counts_never_fall.ensures in
    let e = c.in_ok-answer.ensures in
    record {
      board = c.self.invariant.0;
      publishes = c.self.invariant.1;
      rises = event_rises law.committed law.changes (cell_view c.self.inside.writer.pass) c.self.inside.core _ c.args.event c.self.invariant.2 e.applies.2;
    }

pub invariant_of-self : goal.invariant_of-self
invariant_of-self g c = (
  c.self.invariant.0,
  c.self.invariant.1,
  search rules,
  search rules,
  known_stay c.self.inside.core c.apply.new.self (c.known_loans_stay.ensures.applies c.self.inside.core c.apply.new.self c.args.event c.apply.result c.apply.ensures.applies)
      c.self.inside.loans c.self.invariant.4,
)

pub invariant_of-self-2 : goal.invariant_of-self-2
invariant_of-self-2 g c = (
  search rules,
  search rules,
  search rules,
  search rules,
  known_stay c.self.inside.core c.apply.new.self (c.known_loans_stay.ensures.applies c.self.inside.core c.apply.new.self c.args.event c.apply.result c.apply.ensures.applies)
      c.self.inside.loans c.self.invariant.4,
)
