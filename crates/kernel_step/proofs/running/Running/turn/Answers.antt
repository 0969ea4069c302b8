-- A Turn of the parts is a Turn of the run.
use Rattle.kernel_step.proofs.Counting.{counted-few}
use Rattle.kernel_step.proofs.Trying.{turn-steps-run}
use Rattle.kernel_step.proofs.running.Running.turn.Goals as goal

pub try_turn-requires : goal.try_turn-requires
try_turn-requires c = record {
  kept = c.requires.1.out;
  room = c.requires.1.parts.room;
  few = counted-few c.requires.0 c.args.self.now.history.items c.args.self.now.tasks.items c.args.self.now.system c.args.self.now.ran c.requires.1.parts c.requires.1.counted;
}

pub returns : goal.returns
returns c = λ b h.
    turn-steps-run c.footprints_grow.ensures.turn b c.args.self.now c.try_turn.new.self c.args.pid c.args.n c.try_turn.result h
    c.try_turn.ensures.done c.try_turn.ensures.refused c.try_turn.ensures.same
