-- What stands at each place, a byte.
use Rattle.std.proofs.Common.{arith}
use Rattle.machine.proofs.Pages.{padded, padded-small}
use Rattle.machine.proofs.loading.with_zeros.Goals as goal

pub returns-clause-bytes : goal.returns-clause-bytes
returns-clause-bytes c =
    padded c.args.zeros c.args.size _ _ c.args.bytes.now c.in_ok-all.all.items c.resize.new.self.items c.extend_from_slice.new.self.items c.resize-2.new.self.items c.in_ok-all.ensures.items c.in_ok-all.ensures.len c.in_ok-resize.ensures.items c.in_ok-extend_from_slice.ensures.items c.in_ok-resize-2.ensures.items c.requires

pub returns-clause-small : goal.returns-clause-small
returns-clause-small c =
    padded-small c.args.zeros c.args.bytes.now c.resize-2.new.self.items (λ k. omega (arith, c.type_inv.bytes k)) (returns-clause-bytes c)
