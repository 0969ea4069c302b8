-- Those so far are wanted too.
use Rattle.std.proofs.Common.{◌≡◌, ◌||◌, take}
use Rattle.kernel_model.specs.declared.carrier.Carrier.{Carrier}
use Rattle.kernel_model.specs.Entries.{is_among}
use Rattle.footprints.proofs.wanted.Wanted.add_all.Given as goal

abbrev pub invariant-loop-carrier : goal.invariant-loop-carrier
invariant-loop-carrier l = (x : Carrier) → is_among x l.self ≡ (is_among x l.fn.self || is_among x (take l.carrier-index l.carriers))
