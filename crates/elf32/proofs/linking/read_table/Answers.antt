-- One more header.
use Rattle.std.proofs.Common.{◌∙◌, ◌*◌, ap}
use Rattle.std.proofs.lemmas.List.{take_rest}
use Rattle.image_model.specs.Fields.{program_header}
use Rattle.elf32.proofs.Headers.{headers_in-grown}
use Rattle.elf32.proofs.linking.read_table.Goals as goal

pub loop-k-preserved : goal.loop-k-preserved
loop-k-preserved c =
    c.in_ok-push.ensures.items
    ∙ headers_in-grown c.loop-k.k c.args.bytes.now c.loop-k.headers.items c.read_program_header.result c.loop-k.invariant (c.read_program_header.ensures ∙ ap program_header (take_rest c.args.bytes.now (32 * c.loop-k.k)))
