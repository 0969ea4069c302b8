-- After the first calls come the others.
use Rattle.std.proofs.Common.{drop, length}
use Rattle.std.proofs.lemmas.Bool.Decides.{Decides-eqb}
use Rattle.std.proofs.lemmas.Slice.Eq.{starts_is}
use Rattle.explored_runs.proofs.checkpoints.begins_with.Goals as goal

pub returns : goal.returns
returns c = λ begins.
    let calls = c.args.calls.now in
    let first = c.args.first.now in
    (drop (length first) calls, (starts_is Decides-eqb calls first c.starts_with.result c.starts_with.ensures.value).0 begins)
