-- A run leaves what the tables match.
use Rattle.std.proofs.Common.{◌≡◌, List, length, sym, subst, arith}
use Rattle.std.proofs.lemmas.List.{with_items_is}
use Rattle.interpreter.specs.Tables.{AllMatch}
use Rattle.interpreter.specs.declared.table.Table.{Table}
use Rattle.machine.proofs.machine.Machine.run_to.Goals as goal

pub run_to-done-requires : goal.run_to-done-requires
run_to-done-requires c = record { own = subst (λ (ts : List Table). AllMatch ts c.self.inside.architectural.space) (sym c.deref_mut.ensures.value) c.self.invariant.2 }

pub invariant_of-self : goal.invariant_of-self
invariant_of-self c =
    let size : length c.run_to-done.new.own ≡ c.self.inside.own.len = omega (arith, c.run_to-done.auto.own, c.deref_mut.ensures.len) in
    let shared = c.run_to-done.ensures.kept c.self.inside.tables.value.items c.self.invariant.0 c.self.invariant.1 in
    (shared.0, shared.1, subst (λ (ts : List Table). AllMatch ts c.run_to-done.new.h.space) (sym (with_items_is c.self.inside.own c.run_to-done.new.own size)) c.run_to-done.ensures.own)
