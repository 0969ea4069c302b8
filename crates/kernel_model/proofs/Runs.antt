-- One more event of a run.
pub use Rattle.std.proofs.Common.{append-nil}
use Rattle.std.proofs.Common.{◌≡◌, ℕ, ◌+◌, Option, Some, None, option_to_list, List, [], ◌∷◌, ◌++◌, refl, sym, ap, ◌∙◌, append_assoc, arith}
use Rattle.disk_model.specs.declared.change.Change.{Change}
use Rattle.kernel_model.specs.Entries.{Entry, Item}
use Rattle.kernel_model.specs.Paths.{changes_in_log, with_change}
use Rattle.kernel_model.specs.Answers.{Kernel, now, process_of, with_event, with_events, ran_by, entered, outcome_of, answer}
use Rattle.kernel_model.specs.Ran.{instructions_of, instructions_in, instructions_from, ran_by_turns, ran_in}
use Rattle.kernel_model.specs.State.{Process}
use Rattle.kernel_model.specs.Steps.{step}
use Rattle.kernel_model.specs.Views.{contents}
use Rattle.kernel_model.specs.World.{World, first_world, happens, after, sync_run, sync_log}
use Rattle.kernel_model.specs.Shown.{Given, given_by, each_from, printed, bytes_for, told, told_from, told_with}
use Rattle.kernel_model.specs.declared.answer.Outcome.{Outcome}
use Rattle.kernel_model.specs.declared.answer.Outcome.TheVariants as outcome
use Rattle.kernel_model.specs.declared.event.Event.{Event}
use Rattle.kernel_model.specs.declared.event.Event.TheVariants.{Turn, Enter, Cut, Complete, Fail}

-- the last event happens to the run of those before it
pub after-append : (w : World) (es : List Event) (e : Event) → after w (es ++ e ∷ []) ≡ happens (after w es) e
after-append w [] e = refl
after-append w (x ∷ es) e = after-append (happens w x) es e

-- the run of two lists of events
pub after-after : (w : World) (es fs : List Event) → after w (es ++ fs) ≡ after (after w es) fs
after-after w [] fs = refl
after-after w (x ∷ es) fs = after-after (happens w x) es fs

-- a run's state and its log are those of the synchronous kernel
pub after_sync : (es : List Event) (w : World) → (after w es).sync ≡ sync_run w.sync es
after_sync [] w = refl
after_sync (e ∷ es) w = after_sync es (happens w e)

pub after_log : (es : List Event) (w : World) → (after w es).log ≡ w.log ++ sync_log w.sync es
after_log [] w = sym (append-nil w.log)
after_log (e ∷ es) w = after_log es (happens w e) ∙ append_assoc w.log ((step w.sync e).entry ∷ []) (sync_log (step w.sync e).state es)

-- what is given, one entry after the other
pub contents-append : {A : Type 0} (xs ys : List (Given A)) → contents (xs ++ ys) ≡ contents xs ++ contents ys
contents-append [] ys = refl
contents-append (x ∷ xs) ys = ap (λ zs. x.what ∷ zs) (contents-append xs ys)

pub contents-given_by : {A : Type 0} (past : List Entry) (e : Entry) (xs : List A) → contents (given_by past e xs) ≡ xs
contents-given_by past e [] = refl
contents-given_by past e (x ∷ xs) = ap (λ ys. x ∷ ys) (contents-given_by past e xs)

-- what one more entry gives comes last
pub each_from-append : {A : Type 0} (f : Entry → List A) (past log : List Entry) (e : Entry)
    → each_from f past (log ++ e ∷ []) ≡ each_from f past log ++ given_by (past ++ log) e (f e)
each_from-append f past [] e = append-nil (given_by past e (f e)) ∙ ap (λ ps. given_by ps e (f e)) (sym (append-nil past))
each_from-append f past (x ∷ log) e =
    ap (λ ys. given_by past x (f x) ++ ys) (each_from-append f (past ++ x ∷ []) log e)
    ∙ sym (append_assoc (given_by past x (f x)) (each_from f (past ++ x ∷ []) log) (given_by ((past ++ x ∷ []) ++ log) e (f e)))
    ∙ ap (λ ps. (given_by past x (f x) ++ each_from f (past ++ x ∷ []) log) ++ given_by ps e (f e)) (append_assoc past (x ∷ []) log)

-- one more entry gives the terminals, the processes and the disk what it has for them
pub printed-entry : (t : ℕ) (log : List Entry) (e : Entry) → printed t (log ++ e ∷ []) ≡ printed t log ++ given_by log e (bytes_for t e.output)
printed-entry t log e = each_from-append (λ x. bytes_for t x.output) [] log e

told_from-append : (before : ℕ → List (Given Item)) (past log : List Entry) (e : Entry)
    → told_from before past (log ++ e ∷ []) ≡ told_with (told_from before past log) (past ++ log) e
told_from-append before past [] e = ap (λ ps. told_with before ps e) (sym (append-nil past))
told_from-append before past (x ∷ log) e =
    told_from-append (told_with before past x) (past ++ x ∷ []) log e
    ∙ ap (λ ps. told_with (told_from (told_with before past x) (past ++ x ∷ []) log) ps e) (append_assoc past (x ∷ []) log)

pub told-entry : (p : ℕ) (log : List Entry) (e : Entry) → told p (log ++ e ∷ []) ≡ told_with (λ q. told q log) log e p
told-entry p log e = ap (λ (ts : ℕ → List (Given Item)). ts p) (told_from-append (λ q. []) [] log e)

with_change-append : (o : Option Change) (cs ds : List Change) → with_change o (cs ++ ds) ≡ with_change o cs ++ ds
with_change-append None cs ds = refl
with_change-append (Some c) cs ds = refl

with_change-nil : (o : Option Change) → with_change o [] ≡ option_to_list o
with_change-nil None = refl
with_change-nil (Some c) = refl

pub changes_in_log-entry : (log : List Entry) (e : Entry) → changes_in_log (log ++ e ∷ []) ≡ changes_in_log log ++ option_to_list e.change
changes_in_log-entry [] e = with_change-nil e.change
changes_in_log-entry (x ∷ log) e =
    ap (with_change x.change) (changes_in_log-entry log e) ∙ with_change-append x.change (changes_in_log log) (option_to_list e.change)

-- the run of a core after one more event
pub now-with_event : (k : Kernel) (e : Event) → now (with_event k e) ≡ happens (now k) e
now-with_event k e = after-append (first_world k.boot) k.history e

-- ---- how many instructions its Turns ran
pub instructions-append : (w : World) (es : List Event) (e : Event) → instructions_from w (es ++ e ∷ []) ≡ instructions_from w es + instructions_in (after w es) e
instructions-append w [] e = omega arith
instructions-append w (x ∷ es) e = let rest = instructions-append (happens w x) es e in omega (arith, rest)

ran-by : (o : Option Process) (n : ℕ) → ran_in (ran_by o n) ≡ instructions_of o n
ran-by None n = refl
ran-by (Some p) n = refl

ran-entered : (o : Outcome) → ran_in (entered o) ≡ 0
ran-entered outcome.Entered = refl
ran-entered outcome.Waits = refl
ran-entered outcome.Ended = refl

-- an event ran what its answer says
pub ran-answer : (k : Kernel) (e : Event) → ran_in (answer k e) ≡ instructions_in (now k) e
ran-answer k (Turn pid n) = ran-by (process_of k pid) n
ran-answer k (Enter pid) = ran-entered (outcome_of (step (now k).sync (Enter pid)).entry.item)
ran-answer k Cut = refl
ran-answer k (Complete at) = refl
ran-answer k (Fail at) = refl

pub ran-with_event : (k : Kernel) (e : Event) → ran_by_turns (with_event k e) ≡ ran_by_turns k + ran_in (answer k e)
ran-with_event k e =
    instructions-append (first_world k.boot) k.history e ∙ ap (λ n. ran_by_turns k + n) (sym (ran-answer k e))

-- the history with more events
pub history-with_events : (k : Kernel) (es : List Event) → (with_events k es).history ≡ k.history ++ es
history-with_events k [] = sym (append-nil k.history)
history-with_events k (e ∷ es) = history-with_events (with_event k e) es ∙ append_assoc k.history (e ∷ []) es
