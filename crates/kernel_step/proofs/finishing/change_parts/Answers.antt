-- The process's own part is changed once its children are.
use Rattle.kernel_model.specs.declared.request.Verdict.TheVariants.{Replies}
use Rattle.kernel_step.proofs.Performing.{parts-wait, parts-reply, parts-end}
use Rattle.kernel_step.proofs.finishing.change_parts.Goals as goal

pub returns-in-Waits : goal.returns-in-Waits
returns-in-Waits c = parts-wait c.args.processes.now.parts c.change_children.new.processes.parts c.args.pid c.args.plan.now c.in-Waits.is c.change_children.ensures

pub returns-in-Replies : goal.returns-in-Replies
returns-in-Replies c = parts-reply c.args.processes.now.parts c.change_children.new.processes.parts c.set_all.new.processes.parts c.args.pid c.args.plan.now c.deref.result.now
    (Replies c.in-Replies.field-0) c.requires.from_1 c.requires.there tt c.in-Replies.is c.deref.ensures.value c.change_children.ensures c.set_all.ensures

pub returns-in-Ends : goal.returns-in-Ends
returns-in-Ends c = parts-end c.args.processes.now.parts c.change_children.new.processes.parts c.end.new.self.parts c.args.pid c.args.plan.now c.in-Ends.status
    c.requires.from_1 c.requires.there c.in-Ends.is c.change_children.ensures c.end.ensures.exact
