-- The search tells whether there is a write.
use Rattle.std.proofs.Common.{ap, ◌∙◌, List}
use Rattle.std.specs.Prelude.{is_some}
use Rattle.disk_model.specs.declared.change.Piece.{Piece}
use Rattle.disk_model.specs.Storage.{Device, piece_at}
use Rattle.simdisk.proofs.Lists.{found_tells}
use Rattle.simdisk.proofs.disk.SimDisk.is_in_flight.Goals as goal

pub returns : goal.returns
returns c =
    c.is_some.ensures ∙ found_tells c.deref.result.now c.args.at c.place_of.result c.place_of.ensures.found c.place_of.ensures.none
    ∙ ap (λ (ps : List Piece). is_some (piece_at ps c.args.at)) c.deref.ensures.value
    ∙ ap (λ (v : Device). is_some (piece_at v.in_flight c.args.at)) c.self.view_is
