-- Files that changes made are tidy.
use Rattle.disk_model.proofs.Tidy.{made_bytes}
use Rattle.disk_model.proofs.laws.made_files_hold_bytes.Goals as goal

pub returns : goal.returns
returns c = made_bytes
