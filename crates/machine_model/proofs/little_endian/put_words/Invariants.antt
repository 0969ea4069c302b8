-- The bytes of the words so far.
use Rattle.std.proofs.Common.{◌≡◌, ◌++◌, take}
use Rattle.machine_model.specs.Images.{bytes_of_words}
use Rattle.machine_model.proofs.little_endian.put_words.Given as goal

abbrev pub invariant-loop-word : goal.invariant-loop-word
invariant-loop-word l = l.bytes.items ≡ l.initial.bytes.items ++ bytes_of_words (take l.word-index l.words)
