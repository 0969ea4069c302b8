-- Room and tables match the memory, which is the same all along.
use Rattle.std.proofs.Common.{◌≡◌, sym, subst, ◌∙◌}
use Rattle.memory_model.specs.Memory.{Memory}
use Rattle.memory.specs.Rooms.{IsRoomFor}
use Rattle.machine_model.specs.States.{State}
use Rattle.interpreter.specs.Tables.{AllFixed, AllMatch}
use Rattle.machine.proofs.machine.Machine.into_still.Goals as goal

pub invariant_of-result : goal.invariant_of-result
invariant_of-result c =
    let same : c.take_spare-spare.new.self ≡ c.in-Ok-new.from.value = sym (c.in-Ok-new.ensures.ok ∙ c.take_own-own.ensures.same) in (
      subst (λ (s : State). IsRoomFor c.in-Ok.room s.architectural.memory) same (subst (λ (m : Memory). IsRoomFor c.in-Ok.room m) c.space.ensures c.in-Ok.ensures),
      subst (λ (s : State). AllMatch c.in-Ok-decoded.tables.value.items s.architectural.memory) same c.in-Ok-decoded.ensures.matches,
      subst (λ (s : State). AllFixed c.in-Ok-decoded.tables.value.items s.architectural.memory) same c.in-Ok-decoded.ensures.fixed,
      subst (λ (s : State). AllMatch c.take_own-own.result.items s.architectural.memory) same c.take_own-own.ensures.matches,
    )

pub put_own-requires : goal.put_own-requires
put_own-requires c =
    subst (λ (s : State). AllMatch c.take_own-own.result.items s.architectural.memory) (sym (c.in-Err.ensures.value_returned ∙ c.take_own-own.ensures.same)) c.take_own-own.ensures.matches
