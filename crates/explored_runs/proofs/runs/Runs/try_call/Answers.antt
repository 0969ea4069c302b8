-- A call that does nothing leaves the run as it was.
use Rattle.std.proofs.Common.{ap}
use Rattle.replayed_runs.specs.Replays.{does_something}
use Rattle.explored_runs.proofs.Keying.{key_more}
use Rattle.explored_runs.proofs.runs.Runs.try_call.Goals as goal

pub returns-in-Idle-clause-idle : goal.returns-in-Idle-clause-idle
returns-in-Idle-clause-idle c = λ _. c.in_ok-call.ensures.idle (ap does_something c.in-Idle.is)

pub returns-in_ok-reached_by-in-Made-clause-key : goal.returns-in_ok-reached_by-in-Made-clause-key
returns-in_ok-reached_by-in-Made-clause-key c = λ run.
    let reached = c.in_ok-reached_by-in-Made.field-0 in
    key_more c.args.self.now c.args.calls.now c.args.pid c.args.replay.now c.call.new.self reached.state.items reached.key c.in_ok-reached_by-in-Made.ensures.calls c.in_ok-reached_by-in-Made.ensures.key run
    c.in_ok-call.ensures.moved c.in_ok-call.ensures.limit

pub returns-in_ok-reached_by-in-MadePrivately-clause-key : goal.returns-in_ok-reached_by-in-MadePrivately-clause-key
returns-in_ok-reached_by-in-MadePrivately-clause-key c = λ run.
    let reached = c.in_ok-reached_by-in-MadePrivately.field-0 in
    key_more c.args.self.now c.args.calls.now c.args.pid c.args.replay.now c.call.new.self reached.state.items reached.key c.in_ok-reached_by-in-MadePrivately.ensures.calls c.in_ok-reached_by-in-MadePrivately.ensures.key run
    c.in_ok-call.ensures.moved c.in_ok-call.ensures.limit
