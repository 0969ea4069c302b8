-- A process that has ended makes no call.
use Rattle.kernel_model.specs.Rows.{status_in}
use Rattle.processes.specs.Parts.{statuses_of}
use Rattle.replayed_runs.proofs.Standing.{stands_ended}
use Rattle.std.proofs.Common.{◌≡◌, ◌∙◌, ℕ, Option, is_some, true, subst, sym}
use Rattle.replayed_runs.proofs.Ended.{ended_idle, ended_there}
use Rattle.replayed_runs.proofs.replay.Replay.has_ended.Goals as goal

pub returns : goal.returns
returns c =
    let k = c.args.self.now.core in
    let p = c.args.pid in
    let parts = c.tables.result.processes.now.parts in
    let ended : c.is_some.result ≡ true → is_some (status_in (statuses_of parts) p) ≡ true = λ is. subst (λ (o : Option ℕ). is_some o ≡ true) c.status.ensures (sym c.is_some.ensures ∙ is) in
    record {
      there = λ is. ended_there parts p (ended is);
      idle = λ is. ended_idle k p parts c.tables.ensures.parts (ended is);
      stands = λ is. stands_ended k p parts c.tables.ensures.parts (ended is);
    }
