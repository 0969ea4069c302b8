-- The kernel keeps all changes.
use Rattle.std.proofs.Common.{◌≡◌, ap, ◌∙◌, length, List, rules}
use Rattle.disk_model.specs.declared.change.Change.{Change}
use Rattle.kernel_step.proofs.running.Running.changes.Goals as goal

pub returns : goal.returns
returns c = λ b h.
    let size : c.args.self.now.system.changes.len ≡ length c.args.self.now.system.changes.items = search rules in
    c.len.ensures ∙ size ∙ ap (λ (cs : List Change). length cs) h.parts.mirrors.changes.changes
