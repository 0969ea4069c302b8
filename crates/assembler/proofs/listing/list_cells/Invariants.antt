use Rattle.std.proofs.Common.{◌≡◌, ◌+◌, ◌*◌, ◌++◌, drop}
use Rattle.assembler.specs.Assembly.{rows_from}
use Rattle.assembler.proofs.listing.list_cells.Given as goal

abbrev pub invariant-loop-cell : goal.invariant-loop-cell
invariant-loop-cell l = record {
  address : l.address ≡ 65536 + 4 * l.cell-index;
  rows : l.rows.items ++ rows_from l.address (drop l.cell-index l.cells) ≡ rows_from 65536 l.cells;
}
