-- There is room for one carrier, and the mark is that of the event.
use Rattle.std.proofs.Common.{[], ◌∷◌, refl, arith}
use Rattle.kernel_model.specs.Steps.{own_entry}
use Rattle.kernel_model.specs.declared.carrier.Carrier.TheVariants.{Proc}
use Rattle.kernel_step.proofs.Marking.{few-unwritten}
use Rattle.kernel_step.proofs.turn.note_own.Goals as goal

pub note-requires : goal.note-requires
note-requires c =
    let few = few-unwritten (Proc c.args.pid ∷ []) c.args.dependencies.now.marks in
    omega (arith, few, c.requires)

pub returns-clause-noted : goal.returns-clause-noted
returns-clause-noted c log keeps =
    c.note.ensures.keeps log (own_entry c.args.pid) keeps (c.mark_with-mark.ensures log (own_entry c.args.pid) keeps refl refl) refl
