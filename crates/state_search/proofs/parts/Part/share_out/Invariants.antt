-- The states so far are parted, one by one.
use Rattle.std.proofs.Common.{◌≡◌}
use Rattle.state_search.specs.Going.{IsParted}
use Rattle.state_search.specs.Sharing.{others_from, own_from}
use Rattle.state_search.proofs.Parting.{turn_at}
use Rattle.state_search.proofs.parts.Part.share_out.Given as goal

abbrev pub invariant-loop-found : goal.invariant-loop-found
invariant-loop-found g l = record {
  parted : IsParted l.yielded l.own.items l.others.items;
  own : l.own.items ≡ own_from l.self.number l.self.of 1 l.yielded;
  others : l.others.items ≡ others_from l.self.number l.self.of 1 l.yielded;
  turn : l.turn ≡ turn_at l.self.of 1 l.yielded;
}
