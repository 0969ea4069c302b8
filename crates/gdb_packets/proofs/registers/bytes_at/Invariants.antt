-- The bytes so far, and those that follow.
use Rattle.std.proofs.Common.{◌≡◌, ◌+◌, ◌++◌}
use Rattle.std.specs.Prelude.{◌-◌}
use Rattle.gdb_packets.specs.Answers.{bytes_from, told}
use Rattle.gdb_packets.proofs.registers.bytes_at.Given as goal

abbrev pub invariant-loop-n : goal.invariant-loop-n
invariant-loop-n l = l.bytes.items ++ bytes_from l.space (l.at + l.n) (l.most - l.n) ≡ told l.space l.at l.length
