-- There are more changes where one was made, and it is the last.
use Rattle.std.proofs.Common.{◌∙◌, ap, List, arith}
use Rattle.kernel_model.specs.Entries.{Entry}
use Rattle.kernel_model.specs.Paths.{changes_in_log}
use Rattle.run_events.proofs.Growing.{change-last, no-change}
use Rattle.run_events.proofs.event_record.change_since.Goals as goal

pub returns-then-changes-all : goal.returns-then-changes-all
returns-then-changes-all c = λ log x grown were.
    c.last.ensures.value
    ∙ change-last log x c.change_list-all.result.now c.args.changes (c.change_list-all.ensures ∙ ap (λ (es : List Entry). changes_in_log es) grown) were
    (omega (arith, c.if-changes-all.true))

pub returns-else-changes-all : goal.returns-else-changes-all
returns-else-changes-all c = λ log x grown were.
    no-change log x c.change_list-all.result.now c.args.changes (c.change_list-all.ensures ∙ ap (λ (es : List Entry). changes_in_log es) grown) were
    (λ more. omega (arith, c.if-changes-all.false, more))
