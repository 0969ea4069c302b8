use Rattle.std.proofs.Common.{List, sym, ap, ◌∙◌}
use Rattle.std.specs.Vec.Iter.{into_iter_items}
use Rattle.std.proofs.lemmas.Result.{err_from_is_err_and}
use Rattle.asm_text.specs.declared.token.Line.{Line}
use Rattle.assembler.specs.Layout.{all_placed, start_layout}
use Rattle.assembler.proofs.Passes.{placing-stops}
use Rattle.assembler.proofs.layout.lay_out.Goals as goal

pub returns-in_err-statement-clause-err : goal.returns-in_err-statement-clause-err
returns-in_err-statement-clause-err c =
    let p = err_from_is_err_and c.from_residual-in_err-statement.result c.from_residual-in_err-statement.ensures.1 in
    rw (p.1, p.2) (λ differs. ap (λ (ls : List Line). all_placed c.args.source.now ls start_layout) (sym c.into_iter-line-iterator.ensures.into_iter_gives.0) ∙ sym c.loop-line.invariant.placed
    ∙ placing-stops c.args.source.now (into_iter_items c.loop-line.line-iterator) _ c.in-Some.line (record { position = c.loop-line.position; labels = c.loop-line.labels; pieces = c.loop-line.pieces.items }) _ c.in-Some.ensures.steps.0 (c.in_err-statement.ensures.err differs))
