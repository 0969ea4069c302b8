use Rattle.gdb_packets.proofs.RoundTrip.{back_came, back_after}
use Rattle.gdb_packets.proofs.laws.framed_is_read_back.Goals as goal

pub returns : goal.returns
returns c = record { came = back_came; after = back_after }
