-- The task is back, and the Turn is noted.
use Rattle.std.proofs.Common.{◌≡◌, ◌∙◌, ℕ, ◌+◌, [], ◌∷◌, ◌++◌, List, refl, ap, subst, arith, rules}
use Rattle.disk_model.specs.declared.change.Change.{Change}
use Rattle.commit_deps.specs.Kept.{Marked}
use Rattle.kernel_model.specs.declared.event.Event.{Event}
use Rattle.kernel_model.specs.declared.event.Event.TheVariants.{Turn}
use Rattle.held_output.specs.Withheld.{Withheld}
use Rattle.kernel_step.specs.Parts.{IsOwnNoted}
use Rattle.kernel_step.specs.declared.task.Task.{Task}
use Rattle.kernel_step.proofs.Lists.{get-there}
use Rattle.kernel_step.proofs.SettleCore.{only-room, unsettled-same}
use Rattle.kernel_step.proofs.running.Running.settle_turn.Goals as goal

pub returns-then-is_err-clause-same : goal.returns-then-is_err-clause-same
returns-then-is_err-clause-same c =
    unsettled-same c.args.self.now _ c.args.place c.requires.within refl
    (only-room c.args.self.now.system c.reserve.new.dependencies c.reserve.ensures.same_marks) c.reserve.ensures.same_history refl refl refl

pub returns-clause-done : goal.returns-clause-done
returns-clause-done c =
    let pushed : c.push.new.self.items ≡ c.reserve.new.history.items ++ Turn c.args.done.pid c.args.done.count ∷ [] = search rules in
    record {
      task = c.index_mut.result.now;
      there = get-there c.args.self.now.tasks.items c.args.place c.index_mut.result.now c.requires.within c.index_mut.ensures.value;
      after = c.come_back.new.task;
      back = c.come_back.ensures.back;
      tasks = refl {A = List Task};
      system = record {
        noted = subst (λ (ms : List Marked). IsOwnNoted c.args.done.pid ms c.note_own.new.dependencies.marks) c.reserve.ensures.same_marks c.note_own.ensures.noted;
        footprints = refl;
        changes = refl {A = List Change};
        files = refl;
        tapes = refl;
        pipes = refl;
        parts = refl;
        served = refl;
        screens = refl {A = List (Withheld ℕ)};
        committer = refl;
      };
      history = pushed ∙ ap (λ (es : List Event). es ++ Turn c.args.done.pid c.args.done.count ∷ []) c.reserve.ensures.same_history;
      ran = ap (λ (n : ℕ). c.args.self.now.ran + n) c.from.ensures;
      out = omega (arith, c.requires.some);
      last_lent = refl;
      answer = refl;
    }
