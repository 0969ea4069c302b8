use Rattle.std.proofs.Common.{◌+◌, arith}
use Rattle.gdb_packets.specs.Answers.{told}
use Rattle.gdb_packets.proofs.Bytes.{onward, finished, ended}
use Rattle.gdb_packets.proofs.registers.bytes_at.Goals as goal

pub loop-n-preserved : goal.loop-n-preserved
loop-n-preserved c =
    onward c.args.space.now c.args.at c.min-most.result c.loop-n.n (c.from-in-loop-n.result + c.loop-n.n) c.in-Some.byte c.loop-n.bytes.items c.push.new.self.items
    (told c.args.space.now c.args.at c.args.length) c.byte.result (omega arith) c.loop-n-test.true c.byte.ensures c.in-Some.is c.in_ok-push-in-Some.ensures.items c.loop-n.invariant

pub returns-in-None : goal.returns-in-None
returns-in-None c =
    ended c.args.space.now c.args.at c.min-most.result c.loop-n.n (c.from-in-loop-n.result + c.loop-n.n) c.loop-n.bytes.items
    (told c.args.space.now c.args.at c.args.length) c.byte.result (omega arith) c.byte.ensures c.in-None.is c.loop-n.invariant

pub returns : goal.returns
returns c = finished c.args.space.now c.args.at c.min-most.result c.loop-n.n c.loop-n.bytes.items (told c.args.space.now c.args.at c.args.length) (omega arith) c.loop-n.invariant
