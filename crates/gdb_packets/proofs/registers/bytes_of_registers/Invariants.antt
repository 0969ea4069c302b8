-- The registers so far.
use Rattle.std.proofs.Common.{◌≡◌}
use Rattle.gdb_packets.specs.Answers.{registers}
use Rattle.gdb_packets.proofs.registers.bytes_of_registers.Given as goal

abbrev pub invariant-loop-number : goal.invariant-loop-number
invariant-loop-number l = l.bytes.items ≡ registers l.machine.architectural l.number
