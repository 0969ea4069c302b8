-- A slice of u8 holds bytes.
use Rattle.std.proofs.Common.{arith}
use Rattle.calls.proofs.Copied.{are_bytes}
use Rattle.calls.proofs.write.count.Goals as goal

pub returns-clause-bytes : goal.returns-clause-bytes
returns-clause-bytes c = are_bytes c.args.bytes.now (λ i. omega (arith, c.type_inv.bytes i))
