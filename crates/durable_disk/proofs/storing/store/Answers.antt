-- One piece more is written, or refused.
use Rattle.std.proofs.Common.{sym, is_ok}
use Rattle.durable_disk.proofs.RecordSteps.{goes_on, fails, is_done, is_refused}
use Rattle.durable_disk.proofs.storing.store.Goals as goal

pub loop-piece-preserved : goal.loop-piece-preserved
loop-piece-preserved g c =
    goes_on (g.F.DiskFile.record_of c.args.file.now) (g.F.DiskFile.record_of c.loop-piece.file) (g.F.DiskFile.record_of c.write.new.self)
    c.args.pieces.now c.loop-piece.piece-index c.piece-item.result (is_ok c.write.result) c.loop-piece-test.true (sym c.piece-item.is)
    c.write.ensures.noted (is_done c.write.result c.is_err.result c.is_err.ensures.value c.if-is_err.false) c.loop-piece.invariant

pub returns-then-is_err : goal.returns-then-is_err
returns-then-is_err g c =
    fails (g.F.DiskFile.record_of c.args.file.now) (g.F.DiskFile.record_of c.loop-piece.file) (g.F.DiskFile.record_of c.write.new.self)
    c.args.pieces.now c.loop-piece.piece-index c.piece-item.result (is_ok c.write.result) c.loop-piece-test.true (sym c.piece-item.is)
    c.write.ensures.noted (is_refused c.write.result c.is_err.result c.is_err.ensures.value c.if-is_err.true) c.loop-piece.invariant
