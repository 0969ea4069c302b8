-- One more half.
use Rattle.elf32.proofs.Halves.{halves_more}
use Rattle.elf32.proofs.little_endian.put_halves.Goals as goal

pub loop-half-preserved : goal.loop-half-preserved
loop-half-preserved c = halves_more c.args.bytes.now.items c.loop-half.bytes.items _ _ c.args.halves.now c.loop-half.half-index c.loop-half-test.true c.loop-half.invariant c.to_le_bytes.ensures c.in_ok-extend_from_slice.ensures.items
