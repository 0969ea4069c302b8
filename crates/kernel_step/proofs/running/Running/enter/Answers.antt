-- An Enter of the parts is an Enter of the run.
use Rattle.kernel_model.specs.World.{run_of}
use Rattle.kernel_step.proofs.EnterCore.{log-short}
use Rattle.kernel_step.proofs.Trying.{enter-steps-run}
use Rattle.kernel_step.proofs.running.Running.enter.Goals as goal

pub try_enter-requires : goal.try_enter-requires
try_enter-requires c = record {
  world = run_of c.requires.0 c.args.self.now.history.items;
  mirrors = c.requires.1.parts.mirrors;
  limits = c.tables_keep_their_limits.ensures.tables c.requires.0 c.args.self.now.history.items;
  short = log-short c.requires.0 c.args.self.now.history.items c.args.self.now.tasks.items c.args.self.now.system c.requires.1.parts;
  kept = c.requires.1.out;
  room = c.requires.1.parts.room;
}

pub returns : goal.returns
returns c = λ b h.
    enter-steps-run c.footprints_grow.ensures.enter b c.args.self.now c.try_enter.new.self c.args.pid c.try_enter.result h
    c.try_enter.ensures.done c.try_enter.ensures.refused c.try_enter.ensures.same
