use Rattle.std.proofs.Common.{arith}
use Rattle.assembler.specs.Layout.{laid, shown}
use Rattle.assembler.proofs.Assemblies.{sized}
use Rattle.assembler.proofs.assembly.assemble_lines.Goals as goal

pub list_cells-requires : goal.list_cells-requires
list_cells-requires c =
    let s = sized (record { source = c.args.source.now; labels = c.in_ok-layout.layout.labels; data_base = c.data_base-base.result }) c.args.source.now c.args.lines.items (laid c.in_ok-layout.layout) (shown c.in_ok-output.output) c.in_ok-layout.ensures.ok (rw c.as_slice-pieces.ensures.value at c.in_ok-output.ensures.ok) c.in_ok-entry.ensures.fits in
    rw c.as_slice-cells.ensures.value (omega (arith, s.0, c.in_ok-entry.ensures.fits))

pub image-requires-clause-fits : goal.image-requires-clause-fits
image-requires-clause-fits c =
    let s = sized (record { source = c.args.source.now; labels = c.in_ok-layout.layout.labels; data_base = c.data_base-base.result }) c.args.source.now c.args.lines.items (laid c.in_ok-layout.layout) (shown c.in_ok-output.output) c.in_ok-layout.ensures.ok (rw c.as_slice-pieces.ensures.value at c.in_ok-output.ensures.ok) c.in_ok-entry.ensures.fits in
    omega (arith, s.0, s.1, c.in_ok-entry.ensures.fits)

pub image-requires-clause-inside : goal.image-requires-clause-inside
image-requires-clause-inside c =
    let s = sized (record { source = c.args.source.now; labels = c.in_ok-layout.layout.labels; data_base = c.data_base-base.result }) c.args.source.now c.args.lines.items (laid c.in_ok-layout.layout) (shown c.in_ok-output.output) c.in_ok-layout.ensures.ok (rw c.as_slice-pieces.ensures.value at c.in_ok-output.ensures.ok) c.in_ok-entry.ensures.fits in
    rw s.0 c.in_ok-entry.ensures.inside
