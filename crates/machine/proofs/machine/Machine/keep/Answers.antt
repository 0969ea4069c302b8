-- The tables match what is kept too.
use Rattle.std.proofs.Common.{List, sym, ap, subst}
use Rattle.memory_model.specs.Memory.{Memory}
use Rattle.interpreter.specs.declared.table.Table.{Table}
use Rattle.interpreter.specs.Tables.{AllFixed, AllMatch}
use Rattle.machine.proofs.machine.Machine.keep.Goals as goal

pub invariant_of-result : goal.invariant_of-result
invariant_of-result c = (
  subst (λ (m : Memory). AllMatch c.in_ok-try_clone.field-0.value.items m) (sym c.in_ok-keep.ensures)
      (subst (λ (tables : List Table). AllMatch tables c.self.inside.architectural.space) (sym (ap (λ v. v.items) c.in_ok-try_clone.ensures)) c.self.invariant.0),
  subst (λ (m : Memory). AllFixed c.in_ok-try_clone.field-0.value.items m) (sym c.in_ok-keep.ensures)
      (subst (λ (tables : List Table). AllFixed tables c.self.inside.architectural.space) (sym (ap (λ v. v.items) c.in_ok-try_clone.ensures)) c.self.invariant.1),
)
