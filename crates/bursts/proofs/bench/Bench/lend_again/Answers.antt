-- The loan is known, and so is what was known before; nothing else moves.
use Rattle.std.proofs.Common.{option_map, Some}
use Rattle.crossbeam_utils.specs.Seq.{cell_view}
use Rattle.kernel_step.specs.Loaned.{loan_out}
use Rattle.bursts.proofs.Publishing.{again_keeps}
use Rattle.bursts.proofs.Tickets.{known_stay}
use Rattle.bursts.proofs.bench.Bench.lend_again.Goals as goal

pub invariant_of-self : goal.invariant_of-self
invariant_of-self g c =
    let k = c.self.inside.core in
    let later = c.lend_again.new.self in
    let given = option_map loan_out c.lend_again.result in
    let kept = again_keeps (cell_view c.self.inside.writer.pass) c.self.inside.books k later c.args.pid c.args.quantum given c.lend_again.ensures c.self.invariant.2 c.self.invariant.3 in (
      c.self.invariant.0,
      c.self.invariant.1,
      kept.0,
      kept.1,
      known_stay k later (c.known_loans_stay.ensures.lends_again k later c.args.pid c.args.quantum given c.lend_again.ensures) c.self.inside.loans c.self.invariant.4,
    )

pub invariant_of-self-2 : goal.invariant_of-self-2
invariant_of-self-2 g c =
    let k = c.self.inside.core in
    let later = c.lend_again.new.self in
    let law = c.known_loans_stay.ensures in
    let given = Some (loan_out c.in_ok-loan.loan) in
    let kept = again_keeps (cell_view c.self.inside.writer.pass) c.self.inside.books k later c.args.pid c.args.quantum given c.in_ok-loan.ensures c.self.invariant.2 c.self.invariant.3 in (
      c.self.invariant.0,
      c.self.invariant.1,
      kept.0,
      kept.1,
      c.note.ensures.known later
          (known_stay k later (law.lends_again k later c.args.pid c.args.quantum given c.in_ok-loan.ensures) c.self.inside.loans c.self.invariant.4)
          (law.given_again k later c.args.pid c.args.quantum given c.has_lendings.ensures c.in_ok-loan.ensures),
    )
