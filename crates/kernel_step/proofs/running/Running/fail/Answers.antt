-- A Fail of the parts is a Fail of the run.
use Rattle.std.proofs.Common.{refl}
use Rattle.kernel_model.specs.declared.event.Event.TheVariants.{Fail}
use Rattle.kernel_step.proofs.Counting.{counted-other}
use Rattle.kernel_step.proofs.Writing.{fail-core, fail-applies}
use Rattle.kernel_step.proofs.running.Running.fail.Goals as goal

pub returns : goal.returns
returns c = λ b h.
    let applies = fail-applies b c.args.self.now.history.items c.fail.new.history.items c.args.self.now.tasks.items c.args.self.now.system c.fail.new.committer c.args.self.now.last_lent c.args.at c.is_full-full.result c.fail.result h.parts c.is_full-full.ensures
    c.fail.ensures.done c.fail.ensures.history c.fail.ensures.refused c.fail.ensures.same_history in
    record {
      stands = record {
        parts =
            fail-core (record { marks = c.silent_events_leave_marks.ensures; footprints = c.footprints_grow.ensures.disk }) b c.args.self.now.history.items c.fail.new.history.items c.args.self.now.tasks.items c.args.self.now.system c.fail.new.committer c.args.at
            c.is_full-full.result c.fail.result h.parts c.is_full-full.ensures c.fail.ensures.done c.fail.ensures.history c.fail.ensures.same_history c.fail.ensures.same_committer;
        counted =
            counted-other b c.args.self.now.history.items c.fail.new.history.items c.args.self.now.tasks.items c.args.self.now.tasks.items c.args.self.now.last_lent c.args.self.now.ran (Fail c.args.at) c.fail.result refl h.counted applies;
        out = h.out;
      };
      applies = applies;
    }
