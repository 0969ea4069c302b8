use Rattle.std.proofs.Common.{rules, refl, subst, Ok, Some}
use Rattle.std.specs.Prelude.{option_map}
use Rattle.bursts.specs.LoanIds.{id_of_loan}
use Rattle.pool.specs.Seats.{Seated}
use Rattle.pool.specs.Fetching.{Fetches}
use Rattle.pool.proofs.Comes.{from_spare, from_own, from_others, from_core}
use Rattle.pool.proofs.seats.Seat.fetch_ticketed.Goals as goal

pub returns-in-Some : goal.returns-in-Some
returns-in-Some g c =
    let i = c.self.inside in
    let s : Seated = record { own = i.own; others = i.others.items; spare = option_map id_of_loan i.spare; results = i.results; share = i.share; told = i.told.items } in
    let t : Seated = record s { spare = option_map id_of_loan c.take.new.self } in
    subst (λ (u : Seated). Fetches u c.args.quantum t (Ok (Some c.in-Some.loan))) c.self.view_is
    (from_spare s t c.args.quantum c.in-Some.loan i.spare c.take.new.self refl refl (search rules) (search rules) refl refl refl refl refl)

pub returns-in-Some-next_loan : goal.returns-in-Some-next_loan
returns-in-Some-next_loan g c =
    let i = c.self.inside in
    let s : Seated = record { own = i.own; others = i.others.items; spare = option_map id_of_loan i.spare; results = i.results; share = i.share; told = i.told.items } in
    let t : Seated = record s { own = c.next_loan.new.self; spare = option_map id_of_loan c.take.new.self } in
    subst (λ (u : Seated). Fetches u c.args.quantum t (Ok (Some c.in-Some-next_loan.loan))) c.self.view_is
    (from_own s t c.args.quantum c.in-Some-next_loan.loan i.spare c.take.new.self refl refl (search rules) (search rules) c.in-Some-next_loan.ensures refl refl refl refl)

pub returns-in-Some-steal_round : goal.returns-in-Some-steal_round
returns-in-Some-steal_round g c =
    let i = c.self.inside in
    let s : Seated = record { own = i.own; others = i.others.items; spare = option_map id_of_loan i.spare; results = i.results; share = i.share; told = i.told.items } in
    let t : Seated = record s { own = c.next_loan.new.self; others = c.steal_round.new.others.items; spare = option_map id_of_loan c.take.new.self } in
    subst (λ (u : Seated). Fetches u c.args.quantum t (Ok (Some c.in-Some-steal_round.loan))) c.self.view_is
    (from_others s t c.args.quantum c.in-Some-steal_round.loan i.spare c.take.new.self refl refl (search rules) (search rules) (search rules) c.in-Some-steal_round.ensures refl refl refl)

pub returns : goal.returns
returns g c =
    let i = c.self.inside in
    let s : Seated = record { own = i.own; others = i.others.items; spare = option_map id_of_loan i.spare; results = i.results; share = i.share; told = i.told.items } in
    let m : Seated = record s { own = c.next_loan.new.self; others = c.steal_round.new.others.items; spare = option_map id_of_loan c.take.new.self } in
    subst (λ (u : Seated). Fetches u c.args.quantum c.ask_for_loan.new.self c.ask_for_loan.result) c.self.view_is
    (from_core s m c.ask_for_loan.new.self c.args.quantum i.spare c.take.new.self c.ask_for_loan.result refl refl (search rules) (search rules) (search rules) (search rules) refl refl refl c.ask_for_loan.ensures)
