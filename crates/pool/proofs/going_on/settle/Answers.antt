use Rattle.pool.proofs.GoingOn.{comes_back}
use Rattle.pool.proofs.going_on.settle.Goals as goal

pub returns-in-Err : goal.returns-in-Err
returns-in-Err g c =
    comes_back c.args.bench.now.core c.settle_ticketed.new.self.core c.args.share.now c.settle_ticketed.new.share c.args.done c.in-Err.rejected c.in-Err.ensures.settles c.in-Err.ensures.share
