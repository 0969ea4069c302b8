-- A call is as `core_calls` have it.
use Rattle.std.proofs.Common.{◌∙◌, ap, length, sym}
use Rattle.kernel_model.specs.State.{SyncState}
use Rattle.kernel_model.specs.declared.event.Event.TheVariants.{Enter}
use Rattle.replayed_runs.specs.Replays.{seen_of}
use Rattle.replayed_runs.proofs.Replaying.{call_stays, numbered, seen_sync, still}
use Rattle.replayed_runs.proofs.replay.Replay.call.Goals as goal

pub returns-then-not-branch-clause-moved : goal.returns-then-not-branch-clause-moved
returns-then-not-branch-clause-moved c =
    let k = c.args.self.now.core in
    let idle = sym c.in_ok-enter.ensures.works ∙ c.if-not-branch.true in
    c.in_ok-enter.ensures.seen ∙ still k (Enter c.args.pid) idle ∙ sym (call_stays c.args.self.now.limit (seen_of k) c.args.pid (numbered k) idle)

pub returns-then-not-branch-clause-idle : goal.returns-then-not-branch-clause-idle
returns-then-not-branch-clause-idle c = λ _.
    c.in_ok-enter.ensures.seen ∙ still c.args.self.now.core (Enter c.args.pid) (sym c.in_ok-enter.ensures.works ∙ c.if-not-branch.true)

pub returns-clause-moved : goal.returns-clause-moved
returns-clause-moved c =
    let k = c.args.self.now.core in
    let works = sym c.in_ok-enter.ensures.works ∙ c.if-not-branch.false in
    let before = c.last_process-last.ensures ∙ sym (ap (λ (u : SyncState). length u.processes) (seen_sync k)) in
    c.in_ok-run_on_after.ensures.called (seen_of k) c.in_ok-enter.ensures.seen (numbered k) works before

pub returns-clause-rightly : goal.returns-clause-rightly
returns-clause-rightly c =
    let k = c.args.self.now.core in
    let works = sym c.in_ok-enter.ensures.works ∙ c.if-not-branch.false in
    c.kind_of-called.ensures.rightly k (c.in_ok-enter.ensures.made c.if-not-branch.false) works c.terminal_of-terminal.ensures

pub returns-clause-promised : goal.returns-clause-promised
returns-clause-promised c = λ promises. c.kind_of-called.ensures.promised (seen_of c.args.self.now.core) promises c.terminal_of-terminal.ensures
