-- The event is noted, and then the rest is done.
use Rattle.std.proofs.Common.{◌≡◌, ◌∙◌, ◌++◌, ◌∷◌, [], ℕ, List, length, ap, subst, rules}
use Rattle.footprints.specs.Kept.{footprint}
use Rattle.kernel_model.specs.declared.carrier.Carrier.{Carrier}
use Rattle.kernel_step.specs.Entering.{entry_of, IsNoted}
use Rattle.kernel_step.proofs.finishing.carry_out.Goals as goal

pub finish-outcome-requires : goal.finish-outcome-requires
finish-outcome-requires c =
    let ready = c.requires.ready in
    let may = ready.system in
    record {
      task = ready.task;
      child = ready.child;
      output = ready.output;
      changes = ready.changes;
      system = record { processes = may.processes; left = may.left; spare = may.spare; may = may.may; few = may.few };
    }

pub returns-clause-carried : goal.returns-clause-carried
returns-clause-carried c =
    let e = c.args.entering in
    let s = c.args.system.now in
    let mark = c.note_enter-mark.result in
    let noted = c.note_enter-mark.new.dependencies in
    let done = c.finish-outcome.ensures in
    let count : c.len.result ≡ length s.changes.items = search rules in
    record {
      mark = mark;
      dependencies = noted;
      footprints = c.note.new.self;
      kept =
          c.note.ensures.footprints
          ∙ ap (λ (cs : List Carrier). s.footprints.footprints ++ footprint cs c.deref-2.result.now ∷ []) c.deref.ensures.value
          ∙ ap (λ (cs : List Carrier). s.footprints.footprints ++ footprint e.plan.reads.items cs ∷ []) (c.deref-2.ensures.value ∙ c.requires.noting.writes);
      noted = subst (λ (n : ℕ). IsNoted (entry_of e.pid e.plan) n s.dependencies.marks noted.marks mark) count c.note_enter-mark.ensures;
      rest = done.system;
      told = done.task;
      made = done.child;
      outcome_is = done.outcome;
    }
