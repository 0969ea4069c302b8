-- The kernel as its callers see it: why it refuses an event, and what it answers.
use Rattle.std.specs.Prelude.{◌≡◌, ℕ, zero, suc, ◌+◌, ◌-◌, ◌*◌, ◌^◌, ◌&&◌, ◌||◌, not, nat_lt, nat_le, Bool, false, if◌then◌else◌, List, [], ◌∷◌, ◌++◌, length, drop, map, slice_get, Option, Some, None, is_some, is_none, Result, MatchResult, count_by}
use Rattle.std.specs.List.{list_any}
use Rattle.disk_model.specs.declared.change.Change.{Change}
use Rattle.disk_model.specs.declared.change.Piece.{Piece}
use Rattle.disk_model.specs.Storage.{Storage, piece_at, is_empty, is_quiet, least_start}
use Rattle.machine_model.specs.States.{run, stopped_at}
use Rattle.kernel_model.specs.Entries.{Item, Got, End}
use Rattle.kernel_model.specs.Paths.{changes_in_log}
use Rattle.kernel_model.specs.State.{Process, process_at}
use Rattle.kernel_model.specs.Steps.{step}
use Rattle.kernel_model.specs.World.{World, Boot, first_world, after, happens}
use Rattle.kernel_model.specs.Shown.{printed, shown}
use Rattle.kernel_model.specs.declared.answer.Answer.{Answer}
use Rattle.kernel_model.specs.declared.answer.Answer.TheVariants as answer_of
use Rattle.kernel_model.specs.declared.answer.Outcome.{Outcome}
use Rattle.kernel_model.specs.declared.answer.Outcome.TheVariants as outcome
use Rattle.kernel_model.specs.declared.answer.Refused.{Refused}
use Rattle.kernel_model.specs.declared.answer.Refused.TheVariants as refused
use Rattle.kernel_model.specs.declared.event.Event.{Event}
use Rattle.kernel_model.specs.declared.event.Event.TheVariants.{Turn, Enter, Cut, Complete, Fail}

-- how a process stands with its loans: how many there were, and the quantum of the one that it is out on, if it is
pub record Lending : Type 0 where
  pub loans : ℕ
  pub out : Option ℕ

-- A core: what it was booted from, the events that it accepted, how its processes stand with their loans (process p at
-- place p - 1), and the process that was lent last, 0 before any.
pub record Kernel : Type 0 where
  pub boot : Boot
  pub history : List Event
  pub lendings : List Lending
  pub last_lent : ℕ

-- the run so far
abbrev pub now : Kernel → World
now k = after (first_world k.boot) k.history

-- how many changes are committed
abbrev pub committed : World → ℕ
committed w = w.storage.committed

-- how many changes there are
abbrev pub changes : World → ℕ
changes w = length (changes_in_log w.log)

-- the changes that are not committed, in order
abbrev pub uncommitted : World → List Change
uncommitted w = drop w.storage.committed (changes_in_log w.log)

-- some byte that was written to the terminal is not shown
abbrev pub is_held_back : World → ℕ → Bool
is_held_back w t = nat_lt (length (shown w t)) (length (printed t w.log))

-- the numbers of the terminals
abbrev pub terminals : List ℕ
terminals = 0 ∷ 1 ∷ 2 ∷ 3 ∷ 4 ∷ 5 ∷ 6 ∷ 7 ∷ []

-- a Cut is wanted: a byte of some terminal is held back, no group is in flight, and no write has failed
abbrev pub wants_cut : World → Bool
wants_cut w = list_any (is_held_back w) terminals && is_quiet w.storage.device

-- the least place of the disk at which a write in flight begins
abbrev pub in_flight : World → Option ℕ
in_flight w = least_start w.storage.device.in_flight

-- process pid, if there is one
abbrev pub process_of : Kernel → ℕ → Option Process
process_of k pid = process_at (now k).sync.processes pid

-- how process p stands with its loans, if there is one
abbrev pub lending_at : List Lending → ℕ → Option Lending
lending_at lendings zero = None
lending_at lendings (suc n) = slice_get lendings n

-- the quantum of the loan that a process is out on, if it is there and out on one
abbrev pub quantum_out : Option Lending → Option ℕ
quantum_out None = None
quantum_out (Some lending) = lending.out

-- process pid is out on loan
abbrev pub is_lent : Kernel → ℕ → Bool
is_lent k pid = is_some (quantum_out (lending_at k.lendings pid))

-- how many loans are out
abbrev pub loans_out : Kernel → ℕ
loans_out k = count_by (λ lending. is_some lending.out) k.lendings

-- the most events of a run, and the most instructions of a process
abbrev pub limit : ℕ
limit = 2 ^ 40

-- there is no room for one more event, where two are kept for each loan that is out
abbrev pub is_full : Kernel → Bool
is_full k = nat_le limit (length k.history + 2 * loans_out k)

-- a test, and the refusal where it holds
pub record Test : Type 0 where
  pub holds : Bool
  pub why : Refused

infix 5 ◌⇒◌
-- the test with this refusal
abbrev pub ◌⇒◌ : Bool → Refused → Test
b ⇒ why = record { holds = b; why = why }

-- the refusal of the first test that holds
abbrev pub first_of : List Test → Option Refused
first_of [] = None
first_of (t ∷ ts) = if t.holds then Some t.why else first_of ts

-- the process is there, and has ended
abbrev pub has_ended : Option Process → Bool
has_ended None = false
has_ended (Some p) = is_some p.status

-- the process is there, and stands at a call or a trap
abbrev pub is_stopped : Option Process → Bool
is_stopped None = false
is_stopped (Some p) = is_some (stopped_at p.state)

-- how many instructions the process has done
abbrev pub count_at : Option Process → ℕ
count_at None = 0
count_at (Some p) = p.state.count

-- why a Turn of n instructions is refused of a process that may be there and may be lent, where the history may be full
abbrev pub turn_refusal : Option Process → Bool → Bool → ℕ → Option Refused
turn_refusal p lent full n = first_of (
    (is_none p ⇒ refused.NoProcess)
    ∷ (has_ended p ⇒ refused.Ended)
    ∷ (lent ⇒ refused.Lent)
    ∷ (nat_lt limit (count_at p + n) || full ⇒ refused.Budget)
    ∷ [])

-- the same of an Enter
abbrev pub enter_refusal : Option Process → Bool → Bool → Option Refused
enter_refusal p lent full = first_of (
    (is_none p ⇒ refused.NoProcess)
    ∷ (has_ended p ⇒ refused.Ended)
    ∷ (lent ⇒ refused.Lent)
    ∷ (not (is_stopped p) ⇒ refused.NotStopped)
    ∷ (nat_le limit (count_at p) || full ⇒ refused.Budget)
    ∷ [])

-- why a Cut of these uncommitted changes is refused
abbrev pub cut_refusal : Storage → List Change → Bool → Option Refused
cut_refusal st cs full = first_of (
    (full ⇒ refused.Budget)
    ∷ (not (is_empty st.device.failed) ⇒ refused.DiskFailed)
    ∷ (not (is_empty st.device.in_flight) ⇒ refused.GroupInFlight)
    ∷ (is_empty cs ⇒ refused.NothingToCut)
    ∷ [])

-- why a Complete or a Fail of the write in flight at a place is refused
abbrev pub write_refusal : Storage → ℕ → Bool → Option Refused
write_refusal st at full = first_of (
    (full ⇒ refused.Budget)
    ∷ (is_none (piece_at st.device.in_flight at) ⇒ refused.NoSuchWrite)
    ∷ [])

-- why an event is refused, memory aside; the tests in their order
abbrev pub refusal : Kernel → Event → Option Refused
refusal k (Turn pid n) = turn_refusal (process_of k pid) (is_lent k pid) (is_full k) n
refusal k (Enter pid) = enter_refusal (process_of k pid) (is_lent k pid) (is_full k)
refusal k Cut = cut_refusal (now k).storage (uncommitted (now k)) (is_full k)
refusal k (Complete at) = write_refusal (now k).storage at (is_full k)
refusal k (Fail at) = write_refusal (now k).storage at (is_full k)

-- how many pieces these stages have
abbrev pub piece_count : List (List Piece) → ℕ
piece_count [] = 0
piece_count (stage ∷ stages) = length stage + piece_count stages

-- how many changes the group in flight will commit
abbrev pub changes_to_commit : Storage → ℕ
changes_to_commit st = st.next_committed - st.committed

-- how many writes the group in flight still has, those in flight included
abbrev pub writes_to_come : Storage → ℕ
writes_to_come st = length st.device.in_flight + piece_count st.stages

-- the answer to a Turn of n instructions, which a process runs; that of None is never reached: such a Turn is refused NoProcess
abbrev pub ran_by : Option Process → ℕ → Answer
ran_by None n = answer_of.Waits
ran_by (Some p) n = let r = run n p.state in answer_of.Ran r.count r.stop

-- what an Enter came to that told its process this
abbrev pub outcome_of : Option Item → Outcome
outcome_of None = outcome.Waits
outcome_of (Some (Got r)) = outcome.Entered
outcome_of (Some (End status)) = outcome.Ended

-- the answer to an Enter that came to this
abbrev pub entered : Outcome → Answer
entered outcome.Entered = answer_of.Entered
entered outcome.Waits = answer_of.Waits
entered outcome.Ended = answer_of.Ended

-- the answer to an event that is accepted
abbrev pub answer : Kernel → Event → Answer
answer k (Turn pid n) = ran_by (process_of k pid) n
answer k (Enter pid) = entered (outcome_of (step (now k).sync (Enter pid)).entry.item)
answer k Cut = let st = (happens (now k) Cut).storage in answer_of.Cut (changes_to_commit st) (writes_to_come st)
answer k (Complete at) = answer_of.Completed (committed (happens (now k) (Complete at)))
answer k (Fail at) = answer_of.Failed

-- refused for this reason; where there is none, for want of memory
abbrev pub Refuses : Option Refused → Refused → Type 0
Refuses (Some why) given = given ≡ why
Refuses None given = given ≡ refused.OutOfMemory

-- a process that was never lent
abbrev pub never_lent : Lending
never_lent = record { loans = 0; out = None }

-- a core of this boot before any event and any loan
abbrev pub at_boot : Boot → Kernel
at_boot b = record { boot = b; history = []; lendings = map (λ p. never_lent) b.programs; last_lent = 0 }

-- how processes stand with their loans after an event that made this one, if it made one
abbrev pub with_child : List Lending → Option ℕ → List Lending
with_child lendings None = lendings
with_child lendings (Some child) = lendings ++ never_lent ∷ []

-- the core after one more event
abbrev pub with_event : Kernel → Event → Kernel
with_event k e = record k {
  history = k.history ++ e ∷ [];
  lendings = with_child k.lendings (step (now k).sync e).entry.child;
}

-- the core after these events, the first of them first
abbrev pub with_events : Kernel → List Event → Kernel
with_events k [] = k
with_events k (e ∷ es) = with_events (with_event k e) es

-- each of these events is accepted where it stands
abbrev pub AllAccepted : Kernel → List Event → Type 0
AllAccepted k [] = Unit {0}
AllAccepted k (e ∷ es) = (refusal k e ≡ None) × AllAccepted (with_event k e) es

-- An accepted event joins the history, and its answer is the one above; a refused one changes nothing.
abbrev pub Applies : Kernel → Event → Kernel → Result Answer Refused → Type 0
Applies old e new result = MatchResult result
    (λ a. (refusal old e ≡ None) × (a ≡ answer old e) × (new ≡ with_event old e))
    (λ why. Refuses (refusal old e) why × (new ≡ old))
