-- The words of the pages so far.
use Rattle.std.proofs.Common.{◌≡◌, take}
use Rattle.std.specs.List.{flat_map}
use Rattle.memory.proofs.kept_part.words_of.Given as goal

abbrev pub invariant-loop-page : goal.invariant-loop-page
invariant-loop-page l = l.words.items ≡ flat_map (λ a. a.value) (take l.page-index l.pages)
