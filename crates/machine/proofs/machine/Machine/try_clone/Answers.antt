-- The tables match the copy too.
use Rattle.std.proofs.Common.{◌≡◌, List, sym, ap, subst, ◌∙◌}
use Rattle.memory_model.specs.Memory.{Memory}
use Rattle.machine_model.specs.States.{State}
use Rattle.interpreter.specs.declared.table.Table.{Table}
use Rattle.interpreter.specs.Tables.{AllMatch}
use Rattle.machine.proofs.machine.Machine.try_clone.Goals as goal

pub invariant_of-copy : goal.invariant_of-copy
invariant_of-copy c =
    let same : c.copy.inside.architectural.space ≡ c.self.inside.architectural.space = ap (λ (s : State). s.architectural.memory) (c.copy.view_is ∙ c.in_ok-copy.ensures ∙ sym c.self.view_is) in
    let own = c.in_ok-copy-inside.ensures c.self.inside.architectural.space (subst (λ (tables : List Table). AllMatch tables c.self.inside.architectural.space) (sym c.deref.ensures.value) c.self.invariant.2) in
    (c.copy.invariant.0, c.copy.invariant.1, subst (λ (m : Memory). AllMatch c.in_ok-copy-inside.field-0.items m) (sym same) own)
