-- By induction over the first changes.
use Rattle.disk_model.proofs.Reading.{files_after-append, follow_both, follow_split, made_after}
use Rattle.disk_model.proofs.laws.changes_come_in_turn.Goals as goal

pub returns : goal.returns
returns c = record {
  files = files_after-append;
  possible = λ files first later. (follow_split files first later, λ h. follow_both files first later h.0 h.1);
  made = made_after;
}
