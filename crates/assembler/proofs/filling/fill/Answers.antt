use Rattle.std.proofs.Common.{sym, ◌∙◌}
use Rattle.std.proofs.lemmas.Result.{err_from_is_err_and}
use Rattle.assembler.specs.Layout.{shown}
use Rattle.assembler.proofs.Passes.{held-goes-on, held-stops}
use Rattle.assembler.proofs.filling.fill.Goals as goal

pub returns-in_err-fill_statement-clause-err : goal.returns-in_err-fill_statement-clause-err
returns-in_err-fill_statement-clause-err c =
    let p = err_from_is_err_and c.from_residual.result c.from_residual.ensures.1 in
    rw (p.1, p.2) (λ differs. sym c.loop-piece.invariant ∙ held-stops (record { source = c.args.source.now; labels = c.args.labels.now; data_base = c.args.data_base }) c.args.pieces.now c.loop-piece.piece-index c.piece-item.result (shown c.loop-piece.output) _ c.loop-piece-test.true c.piece-item.is (c.in_err-fill_statement.ensures.err differs))

pub loop-piece-preserved : goal.loop-piece-preserved
loop-piece-preserved c =
    held-goes-on (record { source = c.args.source.now; labels = c.args.labels.now; data_base = c.args.data_base }) c.args.pieces.now c.loop-piece.piece-index c.piece-item.result (shown c.loop-piece.output) _ c.loop-piece-test.true c.piece-item.is c.in_ok-fill_statement.ensures.ok
    ∙ c.loop-piece.invariant
