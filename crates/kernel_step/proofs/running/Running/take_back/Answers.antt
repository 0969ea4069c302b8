-- The parts follow the result's events.
use Rattle.std.proofs.Common.{◌≡◌, ◌<◌, ◌+◌, ◌∙◌, arith, refl, sym, ap, subst, List, Bool, true, false, Option, Some, None, is_some, IsTrue, map, slice_get, slice_set, rules}
use Rattle.std.proofs.lemmas.Bool.{false≢true}
use Rattle.machine_model.specs.declared.stop.Stop.{Stop}
use Rattle.kernel_model.specs.State.{process_at}
use Rattle.kernel_model.specs.World.{run_of}
use Rattle.kernel_step.specs.Settling.{IsLoanOf}
use Rattle.kernel_step.specs.Tasks.{count_out, process_of, status_of}
use Rattle.kernel_step.specs.Tests.{IsPlaceOf}
use Rattle.kernel_step.specs.declared.loan.Done.{Done}
use Rattle.kernel_step.specs.declared.task.Task.{Task}
use Rattle.kernel_step.proofs.Counting.{counted-few}
use Rattle.kernel_step.proofs.Lists.{get-there}
use Rattle.kernel_step.proofs.EnterCore.{log-short, served-few}
use Rattle.kernel_step.proofs.EnterWorld.{fresh-files, may-plan}
use Rattle.kernel_step.proofs.SettleAccepted.{returned_task}
use Rattle.kernel_step.proofs.SettleCore.{count-back, loan-own, not-there, get-one}
use Rattle.kernel_step.proofs.Settled.{stranger-back, turn-settles, call-settles}
use Rattle.kernel_step.proofs.SettleWorld.{out-running}
use Rattle.kernel_step.proofs.KnownLoans.{known-loan}
use Rattle.kernel_step.proofs.running.Running.take_back.Goals as goal
use Rattle.kernel_step.proofs.running.Running.take_back.Goals.{After-index-task}

-- ---- the task
placed : (c : After-index-task) → IsPlaceOf c.args.self.now.tasks.items c.args.done.pid c.in-Some.place
placed c = subst (λ (ts : List Task). IsPlaceOf ts c.args.done.pid c.in-Some.place) c.deref.ensures.value c.in-Some.ensures

there : (c : After-index-task) → slice_get c.args.self.now.tasks.items c.in-Some.place ≡ Some c.index-task.result.now
there c = get-there c.args.self.now.tasks.items c.in-Some.place c.index-task.result.now (placed c).there c.index-task.ensures

-- it is out on this loan
of-loan : (t : Task) (d : Done) (x : Bool) → x ≡ true → (IsTrue x → IsLoanOf t d) → IsLoanOf t d
of-loan t d x is h = h (subst (λ (y : Bool). IsTrue y) (sym is) (let yes : IsTrue true = search rules in yes))

-- so a loan is out
some-out : (c : After-index-task) → IsLoanOf c.index-task.result.now c.args.done → 0 < c.args.self.now.out
some-out c of =
    let tasks : List Task = c.args.self.now.tasks.items in
    let t : Task = c.index-task.result.now in
    let less : count_out (slice_set tasks c.in-Some.place (returned_task t)) + 1 ≡ count_out tasks =
    count-back tasks c.in-Some.place c.args.done.quantum t (returned_task t) (there c) of.out refl in
    let kept : c.args.self.now.out ≡ count_out tasks = c.requires.1.out in
    omega (arith, less, kept)

-- ---- a stranger
pub returns-in_default : goal.returns-in_default
returns-in_default c = λ b h. stranger-back b c.args.self.now c.args.done h
    (not-there b c.args.self.now.history.items c.args.self.now.tasks.items c.args.self.now.last_lent c.args.done
    (subst (λ (ts : List Task). process_at (map process_of ts) c.args.done.pid ≡ None) c.deref.ensures.value c.in_default.ensures))

pub is_of_loan-requires : goal.is_of_loan-requires
is_of_loan-requires c known out number =
    let at = (goal.at.is_of_loan-requires c).After-index-task in
    known-loan c.requires.0 c.args.self.now.history.items c.args.self.now.tasks.items c.args.self.now.system c.args.self.now.last_lent c.in-Some.place c.index-task.result.now c.args.done
    c.requires.1.parts (placed at).number (there at) (c.requires.2 known) out number

pub returns-then-not-is_of_loan : goal.returns-then-not-is_of_loan
returns-then-not-is_of_loan c = λ b h.
    let at = (goal.at.returns-then-not-is_of_loan c).After-index-task in
    stranger-back b c.args.self.now c.args.done h (λ own.
    let of : IsLoanOf c.index-task.result.now c.args.done =
    loan-own b c.args.self.now.history.items c.args.self.now.tasks.items c.args.self.now.system c.args.self.now.last_lent c.in-Some.place c.index-task.result.now c.args.done h.parts (placed at).number (there at) own in
    let yes : IsTrue c.is_of_loan.result = c.is_of_loan.ensures.1 of in
    let no : IsTrue false = subst (λ (x : Bool). IsTrue x) c.if-not-is_of_loan.true yes in
    absurd (false≢true no))

-- ---- its own
pub settle_turn-requires : goal.settle_turn-requires
settle_turn-requires c =
    let at = (goal.at.settle_turn-requires c).After-index-task in
    record {
      within = (placed at).there;
      some = some-out at (of-loan c.index-task.result.now c.args.done c.is_of_loan.result c.if-not-is_of_loan.false c.is_of_loan.ensures.0);
      few = counted-few c.requires.0 c.args.self.now.history.items c.args.self.now.tasks.items c.args.self.now.system c.args.self.now.ran c.requires.1.parts c.requires.1.counted;
    }

pub settle_call-requires-clause-fine : goal.settle_call-requires-clause-fine
settle_call-requires-clause-fine c =
    let at = (goal.at.settle_call-requires-clause-fine c).After-index-task in
    let of = of-loan c.index-task.result.now c.args.done c.is_of_loan.result c.if-not-is_of_loan.false c.is_of_loan.ensures.0 in
    record {
      within = (placed at).there;
      some = some-out at of;
      few = counted-few c.requires.0 c.args.self.now.history.items c.args.self.now.tasks.items c.args.self.now.system c.args.self.now.ran c.requires.1.parts c.requires.1.counted;
      fine = λ t at-place.
          let same : t ≡ c.index-task.result.now = get-one c.args.self.now.tasks.items c.in-Some.place t c.index-task.result.now at-place (there at) in
          record {
            stands = ap (λ (o : Option Stop). is_some o) (sym c.standing.ensures ∙ c.in-Some-standing.is);
            budget = c.args.done.room;
            running =
                subst (λ (u : Task). status_of u ≡ None) (sym same)
                (out-running (run_of c.requires.0 c.args.self.now.history.items) c.args.self.now.system.served c.in-Some.place c.index-task.result.now c.args.done.quantum
                (c.requires.1.parts.mirrors.each.each c.in-Some.place c.index-task.result.now (there at)) of.out);
            plan =
                may-plan c.checkpoints_fit.ensures (run_of c.requires.0 c.args.self.now.history.items) c.args.self.now.tasks.items c.args.self.now.system c.args.done.pid c.in-Some.place c.index-task.result.now c.requires.1.parts.mirrors
                (c.tables_keep_their_limits.ensures.tables c.requires.0 c.args.self.now.history.items)
                (log-short c.requires.0 c.args.self.now.history.items c.args.self.now.tasks.items c.args.self.now.system c.requires.1.parts) (placed at).number (there at);
            few = served-few c.requires.0 c.args.self.now.history.items c.args.self.now.tasks.items c.args.self.now.system c.requires.1.parts;
            fresh = fresh-files (run_of c.requires.0 c.args.self.now.history.items) c.args.self.now.system c.requires.1.parts.mirrors.changes
                (log-short c.requires.0 c.args.self.now.history.items c.args.self.now.tasks.items c.args.self.now.system c.requires.1.parts);
          };
    }

pub returns-in-None : goal.returns-in-None
returns-in-None c = λ b h.
    let at = (goal.at.returns-in-None c).After-index-task in
    turn-settles c.footprints_grow.ensures.turn b c.args.self.now c.settle_turn.new.self c.in-Some.place c.index-task.result.now c.args.done c.settle_turn.result h (placed at).number (there at)
    (of-loan c.index-task.result.now c.args.done c.is_of_loan.result c.if-not-is_of_loan.false c.is_of_loan.ensures.0)
    (sym c.standing.ensures ∙ c.in-None.is) c.settle_turn.ensures.done c.settle_turn.ensures.same c.settle_turn.ensures.back

pub returns-in-Some-standing : goal.returns-in-Some-standing
returns-in-Some-standing c = λ b h.
    let at = (goal.at.returns-in-Some-standing c).After-index-task in
    call-settles (record { changes = c.made_files_change.ensures; pipes = record { shown = c.steps_are_shown.ensures.next; grown = c.ends_grow_by_one.ensures } })
    c.footprints_grow.ensures.turn c.footprints_grow.ensures.enter b c.args.self.now c.settle_call.new.self c.in-Some.place c.index-task.result.now c.args.done c.in-Some-standing.standing c.settle_call.result h (placed at).number (there at)
    (of-loan c.index-task.result.now c.args.done c.is_of_loan.result c.if-not-is_of_loan.false c.is_of_loan.ensures.0)
    (sym c.standing.ensures ∙ c.in-Some-standing.is) c.settle_call.ensures.done c.settle_call.ensures.same c.settle_call.ensures.back
