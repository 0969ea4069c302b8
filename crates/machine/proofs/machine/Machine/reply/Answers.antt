-- A reply leaves what the tables match.
use Rattle.std.proofs.Common.{◌≡◌, List, length, sym, subst, rules, arith}
use Rattle.std.proofs.lemmas.List.{with_items_is}
use Rattle.interpreter.specs.declared.table.Table.{Table}
use Rattle.interpreter.specs.Tables.{AllMatch}
use Rattle.machine.proofs.machine.Machine.reply.Goals as goal

pub place-requires-clause-own : goal.place-requires-clause-own
place-requires-clause-own c = subst (λ (ts : List Table). AllMatch ts c.self.inside.architectural.space) (sym c.deref_mut.ensures.value) c.self.invariant.2

pub invariant_of-self : goal.invariant_of-self
invariant_of-self c =
    let size : length c.place.new.own ≡ c.self.inside.own.len = omega (arith, c.place.auto.own, c.deref_mut.ensures.len) in
    let shared = c.place.ensures.tables c.self.inside.tables.value.items c.self.invariant.0 c.self.invariant.1 in
    (shared.0, shared.1, subst (λ (ts : List Table). AllMatch ts c.place.new.space) (sym (with_items_is c.self.inside.own c.place.new.own size)) c.place.ensures.own)

-- Without an answer this would be proved too; with one, an edit that breaks it is refused sooner.
pub returns : goal.returns
returns c = search rules
