use borrow.Author.Differences.{ints}
use Rattle.std.proofs.Common.{rules}
use Rattle.assembler.proofs.filling.below.Goals as goal

pub returns : goal.returns
returns c = search (ints, rules)
