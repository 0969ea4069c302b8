use Rattle.std.proofs.Common.{◌≡◌, length}
use Rattle.std.specs.Vec.Iter.{into_iter_items, into_iter_len}
use Rattle.assembler.specs.Layout.{all_placed, start_layout}
use Rattle.assembler.proofs.layout.lay_out.Given as goal

abbrev pub invariant-loop-line : goal.invariant-loop-line
invariant-loop-line l = record {
  placed : all_placed l.source (into_iter_items l.line-iterator) (record { position = l.position; labels = l.labels; pieces = l.pieces.items }) ≡ all_placed l.source (into_iter_items l.initial.line-iterator) start_layout;
  len : into_iter_len l.line-iterator ≡ length (into_iter_items l.line-iterator);
}
