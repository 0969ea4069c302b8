-- One more word.
use Rattle.machine_model.proofs.Words.{words_more}
use Rattle.machine_model.proofs.little_endian.put_words.Goals as goal

pub loop-word-preserved : goal.loop-word-preserved
loop-word-preserved c = words_more c.args.bytes.now.items c.loop-word.bytes.items _ _ c.args.words.now c.loop-word.word-index c.loop-word-test.true c.loop-word.invariant c.to_le_bytes.ensures c.in_ok-extend_from_slice.ensures.items
