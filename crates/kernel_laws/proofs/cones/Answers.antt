-- Each part is a lemma.
use Rattle.kernel_laws.proofs.Accepted.{cone_accepted, visible_accepted}
use Rattle.kernel_laws.proofs.ConeLaws.{is_framed, cone_suffices, visible_suffice}
use Rattle.kernel_laws.proofs.cones.Goals as goal

pub returns : goal.returns
returns _ = record { frame = is_framed; cone = cone_suffices; accepted = cone_accepted; shown = visible_suffice; visible_accepted = visible_accepted }
