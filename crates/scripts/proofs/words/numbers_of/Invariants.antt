-- A number for each word so far.
use Rattle.std.proofs.Common.{◌≡◌, vec_len}
use Rattle.scripts.proofs.words.numbers_of.Given as goal

abbrev pub invariant-loop-text : goal.invariant-loop-text
invariant-loop-text l = vec_len l.numbers ≡ l.text-index
