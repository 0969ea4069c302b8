-- A run leaves what the tables match, and stops where it should.
use Rattle.std.proofs.Common.{◌≡◌, ℕ, ◌+◌, Some, sym, ap, subst, ◌∙◌, List, length, arith}
use Rattle.std.proofs.lemmas.List.{with_items_is}
use Rattle.machine_model.specs.States.{state, architectural, stopped_at}
use Rattle.interpreter.specs.Tables.{AllFixed, AllMatch}
use Rattle.interpreter.specs.declared.table.Table.{Table}
use Rattle.machine.proofs.Limits.{reached_at-is_run}
use Rattle.machine.proofs.machine.Machine.run.Goals as goal

pub run_tables-done-requires-clause-tables : goal.run_tables-done-requires-clause-tables
run_tables-done-requires-clause-tables c =
    let same : c.self.inside.tables.value.items ≡ c.as_slice.result.now = sym (c.as_slice.ensures.value ∙ ap (λ v. v.items) c.deref.ensures) in
    subst (λ (ts : List Table). AllMatch ts c.self.inside.architectural.space) same c.self.invariant.0

pub run_tables-done-requires-clause-fixed : goal.run_tables-done-requires-clause-fixed
run_tables-done-requires-clause-fixed c =
    let same : c.self.inside.tables.value.items ≡ c.as_slice.result.now = sym (c.as_slice.ensures.value ∙ ap (λ v. v.items) c.deref.ensures) in
    subst (λ (ts : List Table). AllFixed ts c.self.inside.architectural.space) same c.self.invariant.1

pub run_tables-done-requires-clause-own : goal.run_tables-done-requires-clause-own
run_tables-done-requires-clause-own c = subst (λ (ts : List Table). AllMatch ts c.self.inside.architectural.space) (sym c.deref_mut.ensures.value) c.self.invariant.2

pub invariant_of-self : goal.invariant_of-self
invariant_of-self c =
    let same : c.self.inside.tables.value.items ≡ c.as_slice.result.now = sym (c.as_slice.ensures.value ∙ ap (λ v. v.items) c.deref.ensures) in
    let size : length c.run_tables-done.new.own ≡ c.self.inside.own.len = omega (arith, c.run_tables-done.auto.own, c.deref_mut.ensures.len) in (
      subst (λ (ts : List Table). AllMatch ts c.run_tables-done.new.h.space) (sym same) c.run_tables-done.ensures.tables,
      subst (λ (ts : List Table). AllFixed ts c.run_tables-done.new.h.space) (sym same) c.run_tables-done.ensures.fixed,
      subst (λ (ts : List Table). AllMatch ts c.run_tables-done.new.h.space) (sym (with_items_is c.self.inside.own c.run_tables-done.new.own size)) c.run_tables-done.ensures.own,
    )

pub returns-clause-limit : goal.returns-clause-limit
returns-clause-limit c = (reached_at-is_run c.args.max _ _ (c.run_tables-done.ensures.run c.self.inside.count)).limit

pub returns-clause-standing : goal.returns-clause-standing
returns-clause-standing c =
    λ stopped. subst (λ (n : ℕ). stopped_at (state (architectural c.run_tables-done.new.h.regs.x c.run_tables-done.new.h.regs.pc c.run_tables-done.new.h.space) (c.self.inside.count + n)) ≡ Some c.run_tables-done.result.1) (sym c.from.ensures)
    ((reached_at-is_run c.args.max _ _ (c.run_tables-done.ensures.run c.self.inside.count)).standing stopped)
