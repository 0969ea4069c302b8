use Rattle.std.proofs.Common.{refl, subst}
use Rattle.std.specs.Prelude.{option_map}
use Rattle.bursts.specs.LoanIds.{id_of_loan}
use Rattle.pool.specs.Seats.{Seated}
use Rattle.pool.specs.Fetching.{AsksForLoan}
use Rattle.pool.proofs.Comes.{noted_lending}
use Rattle.pool.proofs.seats.Seat.ask_for_loan.Goals as goal

pub returns : goal.returns
returns g c =
    let i = c.self.inside in
    let l = c.lend_some-given in
    let s : Seated = record { own = i.own; others = i.others.items; spare = option_map id_of_loan i.spare; results = i.results; share = i.share; told = i.told.items } in
    let t : Seated = record s { own = l.new.own; spare = option_map id_of_loan l.new.spare; share = l.new.share; told = c.note_lending.new.told.items } in
    subst (λ (u : Seated). AsksForLoan u c.args.quantum t l.result) c.self.view_is
    (noted_lending s t c.args.quantum c.deref_mut.result.now i.spare l.new.spare l.result refl refl refl refl l.ensures.lent l.ensures.none l.ensures.refused c.note_lending.ensures)
