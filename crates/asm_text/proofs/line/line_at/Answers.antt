-- The line ends after the blanks, nothing stands there, or a token does.
use Rattle.std.proofs.Common.{◌≡◌, Some, refl, sym, ◌∙◌}
use Rattle.asm_text.specs.Scan.{token_at}
use Rattle.asm_text.proofs.Reading.{line_read, line_fault, read_further}
use Rattle.asm_text.proofs.line.line_at.Goals as goal

pub returns-then-is_over : goal.returns-then-is_over
returns-then-is_over c = line_read c.loop-here.invariant _ _ _ c.blank_len-blanks.ensures.value c.still_after-directly.ensures c.split_at.ensures.back c.args.number _ c.new.ensures c.if-is_over.ensures

pub returns-in_default : goal.returns-in_default
returns-in_default c = (
  refl,
  line_fault c.loop-here.invariant _ _ _ c.blank_len-blanks.ensures.value c.still_after-directly.ensures c.split_at.ensures.back c.if-is_over.ensures (sym c.in_ok-kind.ensures.value ∙ c.in_default.is),
)

pub loop-here-preserved : goal.loop-here-preserved
loop-here-preserved c =
    let token : token_at c.still_after-directly.result c.split_at.result.1.now ≡ Some (c.in-Some.kind, c.in-Some.len) = cc (c.in_ok-kind.ensures.value) in
    let fits = (rw c.in-Some.is at c.in_ok-kind.ensures.bound).1 in
    read_further c.loop-here.invariant _ _ _ c.blank_len-blanks.ensures.value c.still_after-directly.ensures c.split_at.ensures.back
    c.in-Some.kind c.in-Some.len _ _ _ token fits c.is_word-after_word.ensures c.split_at-in-loop-here.ensures.back
    c.in_ok-push.ensures.items
