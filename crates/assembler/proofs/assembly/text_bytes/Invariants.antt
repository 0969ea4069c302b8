use Rattle.std.proofs.Common.{◌≡◌, ◌++◌, drop}
use Rattle.machine_model.specs.Images.{bytes_of_words}
use Rattle.assembler.specs.Assembly.{words_of}
use Rattle.assembler.proofs.assembly.text_bytes.Given as goal

abbrev pub invariant-loop-cell : goal.invariant-loop-cell
invariant-loop-cell l = l.bytes.items ++ bytes_of_words (words_of (drop l.cell-index l.cells)) ≡ bytes_of_words (words_of l.cells)
