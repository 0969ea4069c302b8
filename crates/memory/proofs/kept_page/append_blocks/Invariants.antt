-- The words of the blocks so far are appended.
use Rattle.std.proofs.Common.{◌≡◌, ◌++◌, take}
use Rattle.std.specs.List.{flat_map}
use Rattle.memory.proofs.kept_page.append_blocks.Given as goal

abbrev pub invariant-loop-block : goal.invariant-loop-block
invariant-loop-block l = l.words.items ≡ l.initial.words.items ++ flat_map (λ a. a.value.items) (take l.block-index l.blocks)
