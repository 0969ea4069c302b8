-- The tables match the memory of the machine that stood still.
use Rattle.std.proofs.Common.{◌≡◌, sym, ap, subst, ◌∙◌}
use Rattle.machine_model.specs.States.{State}
use Rattle.interpreter.specs.Tables.{AllMatch}
use Rattle.machine.proofs.standing.StillMachine.machine.Goals as goal

pub put_own-requires : goal.put_own-requires
put_own-requires c = subst (λ (s : State). AllMatch c.self.inside.own.items s.architectural.memory) (sym c.in-Ok.ensures.ok) c.self.invariant.3

pub with_parts-requires-clause-matches : goal.with_parts-requires-clause-matches
with_parts-requires-clause-matches c =
    let same : c.deref-in-Err.result.now ≡ c.self.inside.from.value = c.deref-in-Err.ensures ∙ ap (λ a. a.value) c.in-Err.ensures.err in
    subst (λ (s : State). AllMatch c.self.inside.tables.value.items s.architectural.memory) (sym same) c.self.invariant.1

pub with_parts-requires-clause-own : goal.with_parts-requires-clause-own
with_parts-requires-clause-own c =
    let same : c.deref-in-Err.result.now ≡ c.self.inside.from.value = c.deref-in-Err.ensures ∙ ap (λ a. a.value) c.in-Err.ensures.err in
    subst (λ (s : State). AllMatch c.self.inside.own.items s.architectural.memory) (sym same) c.self.invariant.3
