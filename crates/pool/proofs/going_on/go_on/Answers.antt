use Rattle.pool.proofs.GoingOn.{goes_once, comes_back}
use Rattle.pool.proofs.going_on.go_on.Goals as goal

pub returns-in-Ok : goal.returns-in-Ok
returns-in-Ok g c =
    goes_once c.args.bench.now.core c.go_on.new.self.core c.args.share.now c.go_on.new.share c.args.done c.in-Ok.field-0-0 c.in-Ok.given c.in-Ok.ensures.goes_on c.in-Ok.ensures.share

pub returns-in-Err : goal.returns-in-Err
returns-in-Err g c = comes_back c.args.bench.now.core c.go_on.new.self.core c.args.share.now c.go_on.new.share c.args.done c.in-Err.rejected c.in-Err.ensures.goes_on c.in-Err.ensures.share
