-- The loan is known, and so is what was known before; nothing else moves.
use Rattle.std.proofs.Common.{Ok}
use Rattle.crossbeam_utils.specs.Seq.{cell_view}
use Rattle.kernel_step.specs.Loaned.{lent_out}
use Rattle.bursts.proofs.Publishing.{lend_keeps}
use Rattle.bursts.proofs.Tickets.{known_stay, given_one}
use Rattle.bursts.proofs.bench.Bench.lend_ticketed.Goals as goal

pub invariant_of-self : goal.invariant_of-self
invariant_of-self g c =
    let k = c.self.inside.core in
    let later = c.lend.new.self in
    let result = lent_out c.lend.result in
    let kept = lend_keeps (cell_view c.self.inside.writer.pass) c.self.inside.books k later c.args.quantum result c.lend.ensures c.self.invariant.2 c.self.invariant.3 in (
      c.self.invariant.0,
      c.self.invariant.1,
      kept.0,
      kept.1,
      known_stay k later (c.known_loans_stay.ensures.lends k later c.args.quantum result c.lend.ensures) c.self.inside.loans c.self.invariant.4,
    )

pub invariant_of-self-in_default : goal.invariant_of-self-in_default
invariant_of-self-in_default g c =
    let k = c.self.inside.core in
    let later = c.lend.new.self in
    let result = lent_out c.lend.result in
    let kept = lend_keeps (cell_view c.self.inside.writer.pass) c.self.inside.books k later c.args.quantum result c.lend.ensures c.self.invariant.2 c.self.invariant.3 in (
      c.self.invariant.0,
      c.self.invariant.1,
      kept.0,
      kept.1,
      known_stay k later (c.known_loans_stay.ensures.lends k later c.args.quantum result c.lend.ensures) c.self.inside.loans c.self.invariant.4,
    )

pub invariant_of-self-2 : goal.invariant_of-self-2
invariant_of-self-2 g c =
    let k = c.self.inside.core in
    let later = c.lend.new.self in
    let l = c.in-Some.loan in
    let law = c.known_loans_stay.ensures in
    let result = lent_out (Ok c.in_ok-loan.field-0) in
    let kept = lend_keeps (cell_view c.self.inside.writer.pass) c.self.inside.books k later c.args.quantum result c.in_ok-loan.ensures c.self.invariant.2 c.self.invariant.3 in (
      c.self.invariant.0,
      c.self.invariant.1,
      kept.0,
      kept.1,
      c.note.ensures.known later
          (known_stay k later (law.lends k later c.args.quantum result c.in_ok-loan.ensures) c.self.inside.loans c.self.invariant.4)
          (given_one later c.in_ok-loan.field-0 l c.in-Some.is (law.given k later c.args.quantum result c.has_lendings.ensures c.in_ok-loan.ensures)),
    )
