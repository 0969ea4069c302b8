-- The tables match the first memory.
use Rattle.std.proofs.Common.{List, ap, subst, sym, rules}
use Rattle.interpreter.specs.declared.table.Table.{Table}
use Rattle.interpreter.specs.Tables.{AllFixed, AllMatch}
use Rattle.machine.proofs.machine.Machine.load.Goals as goal

pub invariant_of-result : goal.invariant_of-result
invariant_of-result c = (
  subst (λ (tables : List Table). AllMatch tables c.in_ok-space.space) (sym (ap (λ v. v.items) c.in_ok-new.ensures.ok)) c.in_ok-tables.ensures.matches,
  subst (λ (tables : List Table). AllFixed tables c.in_ok-space.space) (sym (ap (λ v. v.items) c.in_ok-new.ensures.ok)) c.in_ok-tables.ensures.fixed,
  c.in_ok-own.ensures,
)

-- Without an answer this would be proved too; with one, an edit that breaks it is refused sooner.
pub returns-clause-first : goal.returns-clause-first
returns-clause-first c = search rules
