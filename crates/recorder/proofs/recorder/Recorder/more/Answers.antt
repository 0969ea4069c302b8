-- The core grows, and so its traces do.
use Rattle.recorder.proofs.recorder.Recorder.more.Goals as goal

pub returns-clause-trace : goal.returns-clause-trace
returns-clause-trace c =
    c.traces_only_grow.ensures c.args.self.now.kernel c.run_on.new.self.kernel c.run_on.new.self.process c.run_on.ensures.grows
