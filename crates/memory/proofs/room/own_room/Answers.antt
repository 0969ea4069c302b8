-- A copy is alike.
use Rattle.memory.proofs.Rooms.{alike-same}
use Rattle.memory.proofs.room.own_room.Goals as goal

pub returns : goal.returns
returns c = alike-same _ _ c.in_ok-copy.ensures
