-- A Complete of the parts is a Complete of the run.
use Rattle.std.proofs.Common.{◌≡◌, ◌∙◌, ℕ, Ok, Err, refl, sym, ap, subst}
use Rattle.std.proofs.lemmas.Result.{err_from_is_err_and}
use Rattle.disk_model.specs.Storage.{Storage}
use Rattle.kernel_model.specs.World.{World, run_of}
use Rattle.kernel_model.specs.declared.answer.Answer.TheVariants as answer_of
use Rattle.kernel_model.specs.declared.event.Event.TheVariants.{Complete}
use Rattle.kernel_step.specs.Advanced.{AreMoved, AreAdvanced}
use Rattle.kernel_step.proofs.Counting.{counted-other}
use Rattle.kernel_step.proofs.Writing.{completed-core, completed-applies, complete-refused, same-stored, moved-out, tasks-still, screens-still}
use Rattle.kernel_step.proofs.running.Running.complete.Goals as goal

pub returns-in_err-committed : goal.returns-in_err-committed
returns-in_err-committed c = λ b h.
    let applies = complete-refused b c.args.self.now.history.items c.complete.new.history.items c.args.self.now.tasks.items c.args.self.now.system c.args.self.now.last_lent c.args.at c.is_full-full.result c.in_err-committed.field-0.0 h.parts c.is_full-full.ensures
    c.in_err-committed.ensures.refused c.in_err-committed.ensures.same_history in
    let p = err_from_is_err_and c.from_residual.result c.from_residual.ensures.1 in
    rw (p.1, p.2) (record {
      stands = record {
        parts = same-stored b c.args.self.now.history.items c.complete.new.history.items c.args.self.now.tasks.items c.args.self.now.system c.complete.new.committer c.in_err-committed.ensures.same_history c.in_err-committed.ensures.same_committer h.parts;
        counted = counted-other b c.args.self.now.history.items c.complete.new.history.items c.args.self.now.tasks.items c.args.self.now.tasks.items c.args.self.now.last_lent c.args.self.now.ran (Complete c.args.at) (Err c.in_err-committed.field-0.0) refl h.counted applies;
        out = h.out;
      };
      applies = applies;
    })

-- the tasks and the screens are where so many changes were committed
pub release-requires-clause-told : goal.release-requires-clause-told
release-requires-clause-told c =
    let h = c.requires.1.parts.mirrors in
    let w : World = run_of c.requires.0 c.args.self.now.history.items in
    let is : w.storage.committed ≡ c.committed-before.result = ap (λ (st : Storage). st.committed) (sym h.committer) ∙ sym c.committed-before.ensures in
    subst (λ (n : ℕ). AreMoved n c.args.self.now.tasks.items c.args.self.now.tasks.items) is
    (tasks-still w c.args.self.now.system.served c.args.self.now.tasks.items h.each)

pub release-requires-clause-written : goal.release-requires-clause-written
release-requires-clause-written c =
    let h = c.requires.1.parts.mirrors in
    let w : World = run_of c.requires.0 c.args.self.now.history.items in
    let is : w.storage.committed ≡ c.committed-before.result = ap (λ (st : Storage). st.committed) (sym h.committer) ∙ sym c.committed-before.ensures in
    subst (λ (n : ℕ). AreAdvanced n c.args.self.now.system.screens.items c.args.self.now.system.screens.items) is
    (screens-still w.storage.committed w.log c.args.self.now.system.screens.items h.screens)

pub returns : goal.returns
returns c = λ b h.
    let applies = completed-applies b c.args.self.now.history.items c.complete.new.history.items c.args.self.now.tasks.items c.release.new.tasks.items
    c.args.self.now.system c.complete.new.committer c.args.self.now.last_lent c.args.at c.in_ok-committed.committed c.is_full-full.result h.parts c.is_full-full.ensures
    c.in_ok-committed.ensures.done c.in_ok-committed.ensures.history c.release.ensures.tasks in
    record {
      stands = record {
        parts =
            completed-core (record { marks = c.silent_events_leave_marks.ensures; footprints = c.footprints_grow.ensures.disk }) b c.args.self.now.history.items c.complete.new.history.items c.args.self.now.tasks.items c.release.new.tasks.items
            c.args.self.now.system (record c.args.self.now.system { screens = c.release.new.screens; committer = c.complete.new.committer }) c.args.at c.in_ok-committed.committed c.is_full-full.result h.parts c.is_full-full.ensures
            c.in_ok-committed.ensures.done c.in_ok-committed.ensures.history c.release.ensures.tasks c.release.ensures.screens refl refl refl refl
            (record { footprints = refl; pipes = refl; parts = refl; served = refl });
        counted =
            counted-other b c.args.self.now.history.items c.complete.new.history.items c.args.self.now.tasks.items c.release.new.tasks.items c.args.self.now.last_lent c.args.self.now.ran (Complete c.args.at)
            (Ok (answer_of.Completed c.in_ok-committed.committed)) refl h.counted applies;
        out = h.out ∙ sym (moved-out c.in_ok-committed.committed c.args.self.now.tasks.items c.release.new.tasks.items c.release.ensures.tasks);
      };
      applies = applies;
    }
