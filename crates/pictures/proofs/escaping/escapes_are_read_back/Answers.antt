use Rattle.pictures.proofs.Reading.{read_back, all_plain}
use Rattle.pictures.proofs.escaping.escapes_are_read_back.Goals as goal

pub returns : goal.returns
returns c = record { back = read_back; plain = all_plain }
