use Rattle.std.proofs.Common.{rules, sym, subst, [], ◌∷◌}
use Rattle.pool.specs.declared.settling.Settling.{Settling}
use Rattle.bursts.specs.LoanIds.{id_of_loan, id_of_result}
use Rattle.pool.specs.Turns.{Clears, RejectsSoon}
use Rattle.pool.proofs.Advance.{after_fetch}
use Rattle.pool.proofs.seats.Seat.turn.Goals as goal

pub returns-in-Ok-clause-turn : goal.returns-in-Ok-clause-turn
returns-in-Ok-clause-turn g c = after_fetch c.args.self.now c.fetch_ticketed.new.self c.args.quantum (id_of_loan c.in-Ok-Some.loan) (id_of_result c.run_held.result) _ (λ x m. Clears m c.hand_in_and_settle.new.self (x ∷ []) c.ended.result) (search rules) c.run_held.ensures.gate
    (subst (λ (s : Settling). Clears c.fetch_ticketed.new.self c.hand_in_and_settle.new.self (id_of_result c.run_held.result ∷ []) s) (sym c.ended.ensures) (search rules))
    c.run_held.ensures.done

pub returns-in-Err-hand_in_and_settle-clause-turn : goal.returns-in-Err-hand_in_and_settle-clause-turn
returns-in-Err-hand_in_and_settle-clause-turn g c = after_fetch c.args.self.now c.fetch_ticketed.new.self c.args.quantum (id_of_loan c.in-Ok-Some.loan) (id_of_result c.run_held.result) _ (λ x m. RejectsSoon m c.hand_in_and_settle.new.self x c.in-Err-hand_in_and_settle.rejected) (search rules) c.run_held.ensures.gate (search rules)
    c.run_held.ensures.done
