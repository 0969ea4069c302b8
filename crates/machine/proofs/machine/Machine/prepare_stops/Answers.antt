-- The copies match as the tables do.
use Rattle.std.proofs.Common.{◌≡◌, List, sym, subst, ap, ◌∙◌}
use Rattle.interpreter.specs.Tables.{AllMatch}
use Rattle.interpreter.specs.declared.table.Table.{Table}
use Rattle.machine.proofs.Readying.{both-match}
use Rattle.machine.proofs.machine.Machine.prepare_stops.Goals as goal

pub invariant_of-self-then-len : goal.invariant_of-self-then-len
invariant_of-self-then-len c =
    let same : c.self.inside.tables.value.items ≡ c.deref-then-len-2.result.now = sym (c.deref-then-len-2.ensures.value ∙ ap (λ v. v.items) c.deref-then-len.ensures) in
    let copied = c.in_ok-copies.ensures c.self.inside.architectural.space (subst (λ (tables : List Table). AllMatch tables c.self.inside.architectural.space) same c.self.invariant.0) in (
      c.self.invariant.0,
      c.self.invariant.1,
      subst (λ (tables : List Table). AllMatch tables c.self.inside.architectural.space) (sym c.in_ok-append.ensures.items)
          (both-match c.self.inside.own.items c.in_ok-copies.copies.items c.self.inside.architectural.space c.self.invariant.2 copied),
    )
