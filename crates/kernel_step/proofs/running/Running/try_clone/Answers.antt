-- The copy stands for the same run.
use Rattle.std.proofs.Common.{map, refl, ap, ◌∙◌}
use Rattle.kernel_step.specs.Copies.{parts_of}
use Rattle.kernel_step.proofs.SameParts.{copied-stands, copied-kernel}
use Rattle.kernel_step.proofs.running.Running.try_clone.Goals as goal

pub returns-clause-stands : goal.returns-clause-stands
returns-clause-stands c = λ b h.
    copied-stands b c.args.self.now _ h (c.in_ok-to_vec.ensures.items_if_clones_equal (λ x y same. same) ∙ c.deref.ensures.value) refl refl
    (c.in_ok-tasks_of.ensures ∙ ap (map parts_of) c.deref-2.ensures.value) c.in_ok-try_clone.ensures

pub returns-clause-same : goal.returns-clause-same
returns-clause-same c = λ b.
    copied-kernel b c.args.self.now.history.items c.in_ok-to_vec.field-0.items c.args.self.now.tasks.items c.in_ok-tasks_of.field-0.items c.args.self.now.last_lent
    (c.in_ok-to_vec.ensures.items_if_clones_equal (λ x y same. same) ∙ c.deref.ensures.value)
    (c.in_ok-tasks_of.ensures ∙ ap (map parts_of) c.deref-2.ensures.value)
