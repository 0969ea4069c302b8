-- The next number comes in, and at the end there is one for each file.
use Rattle.std.proofs.Common.{rules, arith, ◌≡◌, ◌<◌, ℕ, List, [], ◌∷◌, ◌++◌, length, sym, ap, ◌∙◌}
use Rattle.disk_model.specs.Numbers.{Numbered, numbers_from}
use Rattle.disk_model.proofs.Numbering.{numbers_length}
use Rattle.files.proofs.Numbering.{next_number, all_numbers}
use Rattle.files.proofs.table.FileTable.numbered.Goals as goal

pub loop-number-preserved : goal.loop-number-preserved
loop-number-preserved c =
    let within : c.loop-number.number < length c.args.list = first_of (search rules, omega (arith, c.loop-number-test.true, c.count-made.ensures)) in
    c.in_ok-push.ensures.items ∙ ap (λ l. l ++ c.loop-number.number ∷ []) c.loop-number.invariant ∙ sym (next_number c.loop-number.number c.args.list within)

pub invariant_of-result : goal.invariant_of-result
invariant_of-result c =
    let ended : c.loop-number.number ≡ length c.args.list = first_of (search rules, omega (arith, c.loop-number-test.false, c.count-made.ensures, c.loop-number.auto.number-end)) in
    let all : c.loop-number.numbers.items ≡ numbers_from 0 c.args.list = c.loop-number.invariant ∙ all_numbers c.loop-number.number c.args.list ended in
    ap length all ∙ numbers_length 0 c.args.list

pub returns-clause-ok : goal.returns-clause-ok
returns-clause-ok c =
    let ended : c.loop-number.number ≡ length c.args.list = first_of (search rules, omega (arith, c.loop-number-test.false, c.count-made.ensures, c.loop-number.auto.number-end)) in
    let all : c.loop-number.numbers.items ≡ numbers_from 0 c.args.list = c.loop-number.invariant ∙ all_numbers c.loop-number.number c.args.list ended in
    let many : c.count-made.result ≡ length c.args.list = search rules in
    ap (λ ns. the_record ns c.count-made.result) all ∙ ap (the_record (numbers_from 0 c.args.list)) many
  where
    the_record : List ℕ → ℕ → Numbered
    the_record ns m = record { living = c.args.list; numbers = ns; made = m }
