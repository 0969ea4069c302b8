-- The words that are in blocks so far, and those that are left.
use Rattle.std.proofs.Common.{◌≡◌, ◌++◌}
use Rattle.std.specs.List.{flat_map}
use Rattle.std.specs.Slice.Iter.{chunks_rest}
use Rattle.memory.proofs.kept_page.kept_blocks.Given as goal

abbrev pub invariant-loop-i : goal.invariant-loop-i
invariant-loop-i l = flat_map (λ a. a.value.items) l.blocks.items ++ chunks_rest l.i-iterator.iter ≡ l.words
