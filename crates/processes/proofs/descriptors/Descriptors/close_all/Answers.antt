-- Sixteen free descriptors stand where sixteen stood.
use Rattle.std.proofs.Common.{◌≡◌, length, None, ap, arith}
use Rattle.processes.proofs.Slots.{replicate-same}
use Rattle.processes.proofs.descriptors.Descriptors.close_all.Goals as goal

pub returns : goal.returns
returns c =
    let same : length c.self.inside.slots ≡ length c.args.self.now = ap length c.self.view_is in
    let size : length c.args.self.now ≡ 16 = omega (arith, c.self.invariant) in
    replicate-same None c.args.self.now 16 size
