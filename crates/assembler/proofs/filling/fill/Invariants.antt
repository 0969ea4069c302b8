use Rattle.std.proofs.Common.{◌≡◌, drop}
use Rattle.assembler.specs.Layout.{all_held, added, shown}
use Rattle.assembler.proofs.filling.fill.Given as goal

abbrev pub invariant-loop-piece : goal.invariant-loop-piece
invariant-loop-piece l =
    added (shown l.output) (all_held (record { source = l.source; labels = l.labels; data_base = l.data_base }) (drop l.piece-index l.pieces))
    ≡ all_held (record { source = l.source; labels = l.labels; data_base = l.data_base }) l.pieces
