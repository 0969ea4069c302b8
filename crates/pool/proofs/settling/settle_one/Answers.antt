-- The core under the lock is one that rejects so.
use Rattle.std.proofs.Common.{rules}
use Rattle.pool.specs.Settled.{SomeCoreRejects}
use Rattle.pool.proofs.settling.settle_one.Goals as goal

pub returns-in-Err-clause-some : goal.returns-in-Err-clause-some
returns-in-Err-clause-some g c =
    let rejects : SomeCoreRejects c.in-Err.rejected = record {
      old = c.args.bench.now.core;
      new = c.settle_ticketed.new.self.core;
      done = c.in_ok-done.done;
      rejects = c.in-Err.ensures.settles;
    }
    in (search rules, search rules, rejects)
