-- The law.
use Rattle.elf32.proofs.RoundTrip.{round_trip}
use Rattle.elf32.proofs.laws.round_trips.Goals as goal

pub returns : goal.returns
returns c = round_trip
