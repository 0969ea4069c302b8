-- One more header.
use Rattle.std.proofs.Common.{◌∙◌, ◌*◌, ap, arith}
use Rattle.std.proofs.lemmas.List.{take_rest, length-set}
use Rattle.image_model.specs.Fields.{program_header}
use Rattle.elf32.proofs.Headers.{headers_in-more}
use Rattle.elf32.proofs.header.read_table.Goals as goal

pub loop-k-preserved : goal.loop-k-preserved
loop-k-preserved c = record {
  size = length-set c.loop-k.headers c.loop-k.k c.read_program_header.result ∙ c.loop-k.invariant.size;
  kept = headers_in-more c.loop-k.k c.args.bytes.now c.loop-k.headers c.read_program_header.result (omega arith) c.loop-k.invariant.kept (c.read_program_header.ensures ∙ ap program_header (take_rest c.args.bytes.now (32 * c.loop-k.k)));
}
