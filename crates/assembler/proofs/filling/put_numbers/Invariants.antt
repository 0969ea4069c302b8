use Rattle.std.proofs.Common.{◌≡◌, drop}
use Rattle.assembler.specs.Layout.{numbers_in, shown, joined, in_words, words_of_numbers}
use Rattle.assembler.proofs.filling.put_numbers.Given as goal

abbrev pub invariant-loop-token : goal.invariant-loop-token
invariant-loop-token l =
    joined (shown l.output) (in_words l.in_data l.line (words_of_numbers (numbers_in (drop l.token-index l.tokens))))
    ≡ joined (shown l.initial.output) (in_words l.in_data l.line (words_of_numbers (numbers_in l.tokens)))
