use Rattle.gdb_packets.proofs.Cuts.{arrivals-append, reading_after-append}
use Rattle.gdb_packets.proofs.laws.cuts_change_nothing.Goals as goal

pub returns : goal.returns
returns c = record { came = arrivals-append; after = reading_after-append }
