-- The processes up to the last that has not ended were asked, and those after it do nothing.
use Rattle.std.proofs.Common.{◌-◌, length, subst}
use Rattle.explored_runs.specs.Answering.{AreTried}
use Rattle.replayed_runs.specs.Replays.{seen_of}
use Rattle.explored_runs.specs.declared.runs.Tries.{Tries}
use Rattle.explored_runs.proofs.Nexts.{none_after}
use Rattle.explored_runs.proofs.runs.Runs.next.Goals as goal

pub with_last-requires-clause-asked : goal.with_last-requires-clause-asked
with_last-requires-clause-asked c =
    let n = c.args.self.now.instructions in
    subst (λ (t : Tries). AreTried n (seen_of c.args.replay.core) c.args.calls.now (c.last_alive-last.result - 1) t) c.in-Each.is c.in_ok-run.ensures.tried

pub with_last-requires-clause-none_after : goal.with_last-requires-clause-none_after
with_last-requires-clause-none_after c =
    let s = seen_of c.args.replay.core in
    none_after c.args.self.now.instructions s c.last_alive-last.result (length s.sync.processes) c.last_alive-last.ensures.within c.last_alive-last.ensures.idle
