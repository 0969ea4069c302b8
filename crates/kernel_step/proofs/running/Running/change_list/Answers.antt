-- The kernel keeps all changes.
use Rattle.std.proofs.Common.{◌∙◌}
use Rattle.kernel_step.proofs.running.Running.change_list.Goals as goal

pub returns : goal.returns
returns c = λ b h. c.deref.ensures.value ∙ h.parts.mirrors.changes.changes
