-- The bytes that are copied are as many as were asked for.
use Rattle.std.proofs.Common.{arith, ap, ◌∙◌, length}
use Rattle.kernel_model.proofs.Asked.{length-bytes_at}
use Rattle.calls.proofs.request.named_bytes.Goals as goal

pub returns-in-Ok-clause-whole : goal.returns-in-Ok-clause-whole
returns-in-Ok-clause-whole c = (ap length c.in-Ok.ensures.ok ∙ length-bytes_at _ _ _, omega arith)
