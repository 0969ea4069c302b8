-- It fails only where a carrier is new.
use Rattle.std.proofs.Common.{◌≡◌, arith, ◌∙◌, rules}
use Rattle.commit_deps.proofs.Keeping.{all-written}
use Rattle.commit_deps.proofs.dependencies.Dependencies.event.Goals as goal

pub returns-in_err-reserve-clause-known : goal.returns-in_err-reserve-clause-known
returns-in_err-reserve-clause-known c written =
    let none : c.unwritten-unwritten.result ≡ 0 = c.unwritten-unwritten.ensures ∙ all-written c.args.writes.now c.args.self.now.marks written in
    absurd (omega (arith, none, c.in_err-reserve.ensures.err))

-- Without answers these would be proved too; with them, an edit that breaks one is refused sooner.
pub returns-clause-err : goal.returns-clause-err
returns-clause-err c = search rules

pub returns-clause-stays : goal.returns-clause-stays
returns-clause-stays c = search rules

pub returns-clause-known : goal.returns-clause-known
returns-clause-known c = search rules

pub returns-clause-room : goal.returns-clause-room
returns-clause-room c = search rules

pub returns-clause-keeps : goal.returns-clause-keeps
returns-clause-keeps c = search rules
