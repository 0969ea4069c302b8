-- There is room for what is written, and the mark is that of the entry.
use Rattle.std.proofs.Common.{arith, rules}
use Rattle.kernel_step.specs.Entering.{entry_of}
use Rattle.kernel_step.proofs.Marking.{few-unwritten}
use Rattle.kernel_step.proofs.finishing.note_enter.Goals as goal

pub note-requires : goal.note-requires
note-requires c =
    let few = few-unwritten c.args.entering.now.writes.items c.args.dependencies.now.marks in
    search (arith, rules, few)

pub returns : goal.returns
returns c =
    let x = entry_of c.args.entering.now.pid c.args.entering.now.plan in
    record {
      says = λ log keeps count. c.mark_with-mark.ensures log x keeps (search rules) (search rules);
      kept = λ log keeps count. c.note.ensures.keeps log x keeps (search rules) (search rules);
    }
