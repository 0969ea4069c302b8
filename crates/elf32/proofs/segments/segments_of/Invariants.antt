-- The segments so far.
use Rattle.std.proofs.Common.{◌≡◌, map, take}
use Rattle.image_model.specs.Names.{segment_in}
use Rattle.elf32.proofs.segments.segments_of.Given as goal

abbrev pub invariant-loop-header : goal.invariant-loop-header
invariant-loop-header l = l.segments.items ≡ map (segment_in l.file) (take l.header-index l.headers)
