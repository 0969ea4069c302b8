use Rattle.std.proofs.Common.{inl, inr}
use Rattle.pool.proofs.Works.{went_on, ended}
use Rattle.pool.proofs.crewing.work_on.Goals as goal

pub loop-preserved-in-Ask : goal.loop-preserved-in-Ask
loop-preserved-in-Ask g c =
    went_on g.G.Gate.holds c.args.quantum (c.args.seat.now, c.args.gate.now) (c.loop.seat, c.loop.gate) (c.take_turn.new.seat, c.take_turn.new.gate) c.take_turn.result c.loop.invariant
    c.take_turn.ensures (inl c.in-Ask.is)

pub loop-preserved : goal.loop-preserved
loop-preserved g c =
    went_on g.G.Gate.holds c.args.quantum (c.args.seat.now, c.args.gate.now) (c.loop.seat, c.loop.gate) (c.take_turn.new.seat, c.take_turn.new.gate) c.take_turn.result c.loop.invariant
    c.take_turn.ensures (inr c.in-Rest.is)

pub returns-in-End : goal.returns-in-End
returns-in-End g c =
    ended g.G.Gate.holds c.args.quantum (c.args.seat.now, c.args.gate.now) (c.loop.seat, c.loop.gate) (c.take_turn.new.seat, c.take_turn.new.gate) c.take_turn.result c.in-End.fault
    c.loop.invariant c.take_turn.ensures c.in-End.is
