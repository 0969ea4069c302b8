-- A whole run is synchronous.
use Rattle.std.proofs.Common.{◌≡◌, ℕ, ◌+◌, Bool, true, false, if◌then◌else◌, List, [], ◌∷◌, ◌++◌, length, is_some, refl, sym, ap, ◌∙◌, add-zero, arith}
use Rattle.std.specs.Prelude.{cond}
use Rattle.std.proofs.lemmas.List.Sums.{sum_by-append, sum_by-cons}
use Rattle.kernel_model.specs.Entries.{Entry}
use Rattle.kernel_model.specs.Steps.{step}
use Rattle.kernel_model.specs.World.{World, Boot, first_world, happens, after}
use Rattle.kernel_model.specs.Shown.{printed, told}
use Rattle.kernel_model.specs.Answers.{committed}
use Rattle.kernel_model.specs.declared.event.Event.{Event}
use Rattle.kernel_model.proofs.Runs.{after_sync, after_log}
use Rattle.kernel_laws.specs.Promises.{IsSynchronous, forks}
use Rattle.kernel_laws.proofs.Machines.{comes_at_once}
use Rattle.kernel_laws.proofs.Prefixes.{released_is}
use Rattle.kernel_laws.proofs.Others.{made_count, step_length}
use Rattle.kernel_laws.proofs.Replies.{after_runs}
use Rattle.kernel_laws.proofs.Descent.{after_descends, first_world_descends}

-- one more entry
forks-entry : (log : List Entry) (e : Entry) → forks (log ++ e ∷ []) ≡ forks log + made_count e.child
forks-entry log e =
    sum_by-append (λ (x : Entry). cond (is_some x.child) 1 0) log (e ∷ [])
    ∙ ap (λ (n : ℕ). forks log + n) (sum_by-cons (λ (x : Entry). cond (is_some x.child) 1 0) e [] ∙ one (is_some e.child))
  where
    one : (b : Bool) → cond b 1 0 + 0 ≡ (if b then 1 else 0)
    one true = refl
    one false = refl

-- there are so many processes, and those that the log's forks made
abbrev HasForked : ℕ → World → Type 0
HasForked count w = length w.sync.processes ≡ count + forks w.log

after_forked : (es : List Event) (count : ℕ) (w : World) → HasForked count w → HasForked count (after w es)
after_forked [] count w h = h
after_forked (e ∷ es) count w h =
    let one : HasForked count (happens w e) = omega (arith, h, step_length w.sync e, forks-entry w.log (step w.sync e).entry) in
    after_forked es count (happens w e) one

pub run_is_synchronous : (b : Boot) (es : List Event) → IsSynchronous b (after (first_world b) es) es
run_is_synchronous b es =
    let w = after (first_world b) es in
    record {
      sync = after_sync es (first_world b);
      log = after_log es (first_world b);
      booted = λ p first at. after_runs es (first_world b) p first (record { process = first; there = at; comes = comes_at_once first.state });
      processes = after_descends b es (first_world b) (first_world_descends b);
      as_many = after_forked es (length (first_world b).sync.processes) (first_world b) (sym (add-zero (length (first_world b).sync.processes)));
      terminals = λ t. released_is (committed w) (printed t w.log);
      traces = λ p. released_is (committed w) (told p w.log);
    }
