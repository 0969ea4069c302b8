-- The words of the blocks so far, and those that are left.
use Rattle.std.proofs.Common.{◌≡◌, ◌++◌, take}
use Rattle.std.specs.List.{flat_map}
use Rattle.memory.proofs.kept_page.are_blocks_of.Given as goal

abbrev pub invariant-loop-block : goal.invariant-loop-block
invariant-loop-block l = flat_map (λ a. a.value.items) (take l.block-index l.blocks) ++ l.rest ≡ l.words
