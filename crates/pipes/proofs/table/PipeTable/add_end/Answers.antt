-- One more end of the pipe can be counted.
use Rattle.std.proofs.Common.{sym, ap, ◌∙◌}
use Rattle.std.specs.Prelude.{slice_get, Some}
use Rattle.std.proofs.lemmas.Option.{slice_get-get_or}
use Rattle.pipes.proofs.table.PipeTable.add_end.Goals as goal

pub add_reader-requires : goal.add_reader-requires
add_reader-requires c =
    let room = rw c.in-Read.is at c.requires in
    room c.in-Some.pipe.now ((λ t. slice_get (sym c.self.view_is t) c.in-Read.pipe) ∙ slice_get-get_or c.self.inside.pipes.items c.in-Read.pipe c.in-Some.pipe.now c.in-Some.ensures.item.3.0 ∙ ap Some (sym c.in-Some.ensures.value))

pub add_writer-requires : goal.add_writer-requires
add_writer-requires c =
    let room = rw c.in-Write.is at c.requires in
    room c.in-Some-get_mut.pipe.now ((λ t. slice_get (sym c.self.view_is t) c.in-Write.pipe) ∙ slice_get-get_or c.self.inside.pipes.items c.in-Write.pipe c.in-Some-get_mut.pipe.now c.in-Some-get_mut.ensures.item.3.0 ∙ ap Some (sym c.in-Some-get_mut.ensures.value))
