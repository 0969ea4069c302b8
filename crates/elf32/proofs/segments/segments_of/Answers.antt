-- No segment's bytes pass the end.
use Rattle.elf32.proofs.FirstFaults.{within}
use Rattle.elf32.proofs.segments.segments_of.Goals as goal

pub segment_of-requires : goal.segment_of-requires
segment_of-requires c = within _ c.args.headers.now c.loop-header.header-index _ c.requires c.loop-header-test.true
