-- The first faulty line stops the reading, and so does the last line.
use Rattle.std.proofs.Common.{◌≡◌, ℕ, ◌+◌, List, ◌∷◌, get_or, length, refl, sym, ap, subst, ◌∙◌, rules}
use Rattle.std.proofs.lemmas.Result.{err_from_is_err_and}
use Rattle.asm_text.specs.Text.{FirstFault, IsLine}
use Rattle.asm_text.proofs.Sources.{seen_from, first_fault, text_read, lines_further, all_but_first, with_first, is_none}
use Rattle.asm_text.proofs.Slices.{text_in}
use Rattle.asm_text.proofs.text.lines.Goals as goal

pub returns-in_err-read-clause-exact : goal.returns-in_err-read-clause-exact
returns-in_err-read-clause-exact c =
    let p = err_from_is_err_and c.from_residual.result c.from_residual.ensures.1 in
    let fault = c.in_err-read.ensures in
    let count : c.len.result ≡ length c.loop-lines.lines.items = search (rules, c.len.ensures) in
    rw (p.1, p.2)
    (seen_from _ (FirstFault c.args.source.now)
    (λ line column at. first_fault c.loop-lines.invariant _ _ _ c.line_len.ensures.value c.split_at.ensures.front c.split_at.ensures.back line column (at.0 ∙ ap (λ (n : ℕ). n + 1) count, at.1))
    _ _ _ fault)

pub returns-in_default-clause-exact : goal.returns-in_default-clause-exact
returns-in_default-clause-exact c =
    let count : c.len.result ≡ length c.loop-lines.lines.items = search (rules, c.len.ensures) in
    let line = subst (λ (n : ℕ). IsLine (n + 1) c.loop-lines.start c.split_at.result.0.now c.in_ok-read.read) count c.in_ok-read.ensures in
    text_read c.loop-lines.invariant _ _ _ c.line_len.ensures.value c.split_at.ensures.front c.split_at.ensures.back _ _ line c.in_ok-push.ensures.items (is_none _ c.in_default.len_below)

pub returns-in_default-clause-slices : goal.returns-in_default-clause-slices
returns-in_default-clause-slices c = text_in c.args.source.now _ (returns-in_default-clause-exact c)

pub loop-lines-preserved : goal.loop-lines-preserved
loop-lines-preserved c =
    let count : c.len.result ≡ length c.loop-lines.lines.items = search (rules, c.len.ensures) in
    let line = subst (λ (n : ℕ). IsLine (n + 1) c.loop-lines.start c.split_at.result.0.now c.in_ok-read.read) count c.in_ok-read.ensures in
    let after = c.split_at.result.1.now in
    lines_further c.loop-lines.invariant _ _ _ c.line_len.ensures.value c.split_at.ensures.front c.split_at.ensures.back _ _ (get_or after 0 0) _ _ line c.in_ok-push.ensures.items
    (with_first after c.in-len1-up.len_at_least ∙ ap (λ (l : List ℕ). get_or after 0 0 ∷ l) (sym (all_but_first after))) refl
