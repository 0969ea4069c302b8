-- The ticket is of the loan, and the log knows one loan more.
use Rattle.bursts.specs.Tickets.{lent_loan}
use Rattle.bursts.proofs.Tickets.{ticket_of, noted_known}
use Rattle.bursts.proofs.bench.note.Goals as goal

pub new-requires : goal.new-requires
new-requires g c =
    let l = c.args.loan in
    ticket_of c.args.loans.now c.note-ticket.new.self (lent_loan l.pid l.number l.began.value) c.note-ticket.result c.note-ticket.ensures.noted

pub returns-clause-known : goal.returns-clause-known
returns-clause-known g c = λ k h is.
    let l = c.args.loan in
    noted_known k c.args.loans.now c.note-ticket.new.self (lent_loan l.pid l.number l.began.value) c.note-ticket.result c.note-ticket.ensures.noted c.note-ticket.ensures.none h is
