-- How many were given stands in the notes.
use Rattle.std.proofs.Common.{rules, ap, ◌≡◌, length}
use Rattle.run_threads.specs.declared.note.Note.TheVariants as note_of
use Rattle.run_threads.specs.Records.{Record, noted}
use Rattle.run_threads.proofs.CoreCalls.{one_more}
use Rattle.run_threads.proofs.desk.LockedDeskStagedCore.stage.Goals as goal

pub returns-clause-ok : goal.returns-clause-ok
returns-clause-ok g c =
    let n = note_of.InFlight (length c.in-Ok.pieces.items) in
    let is : c.writes_in_flight.new.self ≡ noted c.args.self.now n = search rules in
    one_more c.args.self.now.notes c.writes_in_flight.new.self.notes n (ap (λ (r : Record). r.notes) is)
