use Rattle.std.proofs.Common.{◌∙◌, refl, sym, ap, subst, Ok}
use Rattle.pool.specs.declared.crewing.Next.TheVariants as next
use Rattle.pool.specs.Crews.{ThenDoes}
use Rattle.pool.proofs.crewing.take_turn.Goals as goal

pub returns-in-Ok-true : goal.returns-in-Ok-true
returns-in-Ok-true g c =
    let t = c.turn_on in
    (t.result, t.new.self, t.ensures, subst (λ r. ThenDoes r t.new.self t.new.self next.Ask) (sym (c.in-Ok-true.is ∙ ap Ok c.in-Ok-true.field-0-test)) (refl, refl))

pub returns-in-Ok-false : goal.returns-in-Ok-false
returns-in-Ok-false g c =
    let t = c.turn_on in
    let a = c.after_idle_turn in
    (t.result, t.new.self, t.ensures, subst (λ r. ThenDoes r t.new.self a.new.seat a.result) (sym (c.in-Ok-false.is ∙ ap Ok c.in-Ok-false.field-0-test)) a.ensures)
