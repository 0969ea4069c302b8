-- A Cut of the parts is a Cut of the run.
use Rattle.std.proofs.Common.{refl, subst, sym}
use Rattle.kernel_model.specs.declared.event.Event.TheVariants.{Cut}
use Rattle.kernel_model.specs.World.{run_of}
use Rattle.kernel_step.specs.Represents.{KeepsRun}
use Rattle.kernel_step.specs.declared.system.System.{System}
use Rattle.kernel_step.proofs.Counting.{counted-other}
use Rattle.kernel_step.proofs.Writing.{cut-core, cut-applies, changes-formed, files-made}
use Rattle.kernel_step.proofs.running.Running.cut.Goals as goal

pub cut-requires-clause-possible : goal.cut-requires-clause-possible
cut-requires-clause-possible c = files-made (run_of c.requires.0 c.args.self.now.history.items) c.args.self.now.system c.requires.1.parts.mirrors.changes

pub cut-requires-clause-formed : goal.cut-requires-clause-formed
cut-requires-clause-formed c =
    changes-formed (run_of c.requires.0 c.args.self.now.history.items) c.args.self.now.system c.args.self.now.system.committer.committed c.requires.1.parts.mirrors.changes

pub returns : goal.returns
returns c = λ b h.
    let applies = cut-applies b c.args.self.now.history.items c.cut.new.history.items c.args.self.now.tasks.items c.args.self.now.system c.cut.new.system.committer c.args.self.now.last_lent c.is_full-full.result c.cut.result h.parts c.is_full-full.ensures
    c.cut.ensures.done c.cut.ensures.refused c.cut.ensures.same in
    record {
      stands = record {
        parts =
            subst (λ (s : System). KeepsRun b c.cut.new.history.items c.args.self.now.tasks.items s) (sym c.cut.ensures.only)
            (cut-core (record { marks = c.silent_events_leave_marks.ensures; footprints = c.footprints_grow.ensures.disk }) b c.args.self.now.history.items c.cut.new.history.items c.args.self.now.tasks.items c.args.self.now.system c.cut.new.system.committer
            c.is_full-full.result c.cut.result h.parts c.is_full-full.ensures c.cut.ensures.done c.cut.ensures.same);
        counted =
            counted-other b c.args.self.now.history.items c.cut.new.history.items c.args.self.now.tasks.items c.args.self.now.tasks.items c.args.self.now.last_lent c.args.self.now.ran Cut c.cut.result refl h.counted applies;
        out = h.out;
      };
      applies = applies;
    }
