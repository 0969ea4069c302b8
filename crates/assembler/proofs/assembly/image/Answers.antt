use Rattle.std.proofs.Common.{rules}
use Rattle.assembler.proofs.Profiles.{profile-parts}
use Rattle.assembler.proofs.assembly.image.Goals as goal

pub new-requires : goal.new-requires
new-requires c =
    profile-parts c.args.entry c.args.output.cells.items c.as_slice.result.now c.in_ok-text.text.items c.args.output.bytes.items c.data_base-base.result _ c.in_ok-segments.segments.items (rw c.into_bytes.ensures at c.in_ok-segments.ensures) c.in_ok-text.ensures.value c.as_slice.ensures.value c.data_base-base.ensures (search rules)
    c.requires.fits c.requires.inside.0 c.requires.inside.1 c.requires.inside.2
