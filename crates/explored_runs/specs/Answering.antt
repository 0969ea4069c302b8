-- Runs that are replayed, and what a search of runs is answered: for each run those of one call more.
use Rattle.std.specs.Prelude.{◌≡◌, ℕ, zero, suc, ◌⊎◌, ◌&&◌, Bool, true, false, if◌then◌else◌, List, [], ◌∷◌, ◌++◌, map, length, option_to_list, Option, Some, None, Result, Ok, Err}
use Rattle.std.specs.Global.{Vec}
use Rattle.kernel_model.specs.World.{Boot}
use Rattle.order_laws.specs.Moves.{Seen, calls}
use Rattle.order_laws.specs.Orders.{IsOver}
use Rattle.order_laws.specs.Outcomes.{AllStand, Stand}
use Rattle.order_laws.specs.Privacy.{IsPrivate}
use Rattle.state_search.specs.declared.key.Key.{Key}
use Rattle.state_search.specs.declared.moves.Found.{Found}
use Rattle.state_search.specs.declared.moves.Reached.{Reached}
use Rattle.explored_runs.specs.CallSearches.{seen_in}
use Rattle.replayed_runs.specs.Replays.{seen_after_calls, seen_of}
use Rattle.replayed_runs.specs.StateKeys.{IsKeyOf}
use Rattle.order_outcomes.specs.declared.outcome.Outcome.{Outcome}
use Rattle.replayed_runs.specs.declared.replay.Replay.{Replay}
use Rattle.explored_runs.specs.declared.runs.After.{After}
use Rattle.explored_runs.specs.declared.runs.Next.{Next}
use Rattle.explored_runs.specs.declared.runs.Next.TheVariants.{More, Over}
use Rattle.explored_runs.specs.declared.runs.Runs.{Runs}
use Rattle.explored_runs.specs.declared.runs.Tries.{Tries}
use Rattle.explored_runs.specs.declared.runs.Tries.TheVariants as tries
use Rattle.explored_runs.specs.declared.runs.Tried.{Tried}
use Rattle.explored_runs.specs.declared.runs.Tried.TheVariants as tried
use Rattle.explored_runs.specs.declared.visited.VisitedState.{VisitedState}
use Rattle.explored_runs.specs.declared.visited.Visits.{Visits}
use Rattle.explored_runs.specs.declared.visited.Visits.TheVariants.{Nothing}

-- the boot of what is explored
abbrev pub boot_in : Runs → Boot
boot_in r = r.programs.now.booted.boot

-- what the run of these calls comes to
abbrev pub seen_of_run : Runs → List ℕ → Seen
seen_of_run r ps = seen_after_calls r.instructions (boot_in r) ps

abbrev pub seen_in_runs : Runs → Vec ℕ → Seen
seen_in_runs r v = seen_of_run r v.items

-- The run of these calls was replayed: the programs were booted, and then these calls were made.
pub record IsRunOf (r : Runs) (ps : List ℕ) (x : Replay) : Type 0 where
  pub seen : seen_of x.core ≡ seen_of_run r ps
  pub limit : x.limit ≡ r.instructions

-- a replay of the run of these calls has this key
abbrev pub HasKeyOf : Runs → List ℕ → Key → Type 0
HasKeyOf r ps key = (y : Replay) × IsRunOf r ps y × IsKeyOf y key

-- each of these runs that were answered has the key of its calls
abbrev pub HaveKeys : Runs → List (Reached (Vec ℕ)) → Type 0
HaveKeys r [] = Unit {0}
HaveKeys r (x ∷ xs) = HasKeyOf r x.state.items x.key × HaveKeys r xs

-- and so has the run that was tried, if it was made
abbrev pub HasTriedKey : Runs → Tried → Type 0
HasTriedKey r tried.Idle = Unit {0}
HasTriedKey r (tried.Made x) = HasKeyOf r x.state.items x.key
HasTriedKey r (tried.Private x) = HasKeyOf r x.state.items x.key

-- and those that were tried
abbrev pub HaveTriedKeys : Runs → Tries → Type 0
HaveTriedKeys r (tries.Private x) = HasKeyOf r x.state.items x.key
HaveTriedKeys r (tries.Each xs) = HaveKeys r xs.items

-- the second stands where the first does
pub record IsCopyOf (x y : Replay) : Type 0 where
  pub seen : seen_of y.core ≡ seen_of x.core
  pub limit : y.limit ≡ x.limit

-- ---- what came of a call that was tried

-- the call of process p does something
abbrev pub Works : ℕ → Seen → ℕ → Type 0
Works n s p = (calls n).works ((calls n).label s p) ≡ true

-- what trying the call of process p came to, after a run of calls ps that comes to s
abbrev pub IsTried : ℕ → Seen → List ℕ → ℕ → Tried → Type 0
IsTried n s ps p tried.Idle = (calls n).works ((calls n).label s p) ≡ false
IsTried n s ps p (tried.Made r) = Works n s p × (r.state.items ≡ ps ++ p ∷ [])
IsTried n s ps p (tried.Private r) = IsPrivate s p × (r.state.items ≡ ps ++ p ∷ [])

abbrev pub is_idle : Tried → Bool
is_idle tried.Idle = true
is_idle _ = false

-- ---- what comes after a run

-- the processes, up to the k-th, whose calls do something
abbrev pub working : ℕ → Seen → ℕ → List ℕ
working n s zero = []
working n s (suc k) = working n s k ++ (if (calls n).works ((calls n).label s (suc k)) then suc k ∷ [] else [])

-- these calls, and one of each of these processes
abbrev pub with_each : List ℕ → List ℕ → List (List ℕ)
with_each ps qs = map (λ q. ps ++ q ∷ []) qs

-- the calls of runs that were answered
abbrev pub ways : List (Reached (Vec ℕ)) → List (List ℕ)
ways rs = map (λ r. r.state.items) rs

-- what trying the calls of the processes up to the k-th came to, after a run of calls ps that comes to s
abbrev pub AreTried : ℕ → Seen → List ℕ → ℕ → Tries → Type 0
AreTried n s ps k (tries.Private r) = (p : ℕ) × IsPrivate s p × (r.state.items ≡ ps ++ p ∷ [])
AreTried n s ps k (tries.Each rs) = ways rs.items ≡ with_each ps (working n s k)

-- These runs were answered after one of calls ps that comes to s: that of one private call more, or those of each call that does something, in the
-- order of their processes.
abbrev pub AreNext : ℕ → Seen → List ℕ → List (Reached (Vec ℕ)) → Type 0
AreNext n s ps rs = ((p : ℕ) × IsPrivate s p × (ways rs ≡ with_each ps (p ∷ []))) ⊎ (ways rs ≡ with_each ps (working n s (length s.sync.processes)))

-- What comes after it is such runs, at least one; or it is over, and this is its outcome.
abbrev pub IsNext : ℕ → Seen → List ℕ → Next → Type 0
IsNext n s ps (More rs) = AreNext n s ps rs.items × (rs.items ≡ [] → ⊥)
IsNext n s ps (Over o) = IsOver (calls n) s × (o.calls.items ≡ ps)

-- the runs of one call more that are in what was found
abbrev pub reached_by_next : Next → List (Reached (Vec ℕ))
reached_by_next (More rs) = rs.items
reached_by_next (Over o) = []

-- A state that is visited is that of these calls, which come to s: with the files there, and all that was written to terminal 0.
pub record IsVisited (ps : List ℕ) (s : Seen) (v : VisitedState) : Type 0 where
  pub calls : v.calls.items ≡ ps
  pub files : v.files ≡ s.sync.files.living
  pub shown : v.shown.items ≡ s.texts 0

-- what is visited of the run of calls ps, which come to s: its state, or nothing where nothing is visited
abbrev pub IsVisitOf : Visits → List ℕ → Seen → Option VisitedState → Type 0
IsVisitOf visits ps s None = visits ≡ Nothing
IsVisitOf visits ps s (Some v) = IsVisited ps s v

-- This was found of the run of calls ps: what comes after it, with the keys of the runs of one call more, and its state, where states are visited. Where it
-- says so, each process stands there at a call or a trap, or has ended.
pub record IsAfter (r : Runs) (ps : List ℕ) (a : After) : Type 0 where
  pub next : IsNext r.instructions (seen_of_run r ps) ps a.next
  pub keys : HaveKeys r (reached_by_next a.next)
  pub visited : IsVisitOf r.visits ps (seen_of_run r ps) a.visited
  pub stands : a.stands ≡ true → Stand (seen_of_run r ps)

-- and so of each of these runs, in their order
abbrev pub AreAfter : Runs → List (Found (Vec ℕ)) → List After → Type 0
AreAfter r [] [] = Unit {0}
AreAfter r [] (a ∷ more) = ⊥
AreAfter r (f ∷ fs) [] = ⊥
AreAfter r (f ∷ fs) (a ∷ more) = IsAfter r f.state.items a × AreAfter r fs more

-- what was found by each share, none of which has a fault, is put together
abbrev pub AreJoined : {E : Type 0} → List (Result (Vec After) E) → List After → Type 0
AreJoined [] all = all ≡ []
AreJoined (Ok xs ∷ shares) all = (rest : List After) × (all ≡ xs.items ++ rest) × AreJoined shares rest
AreJoined (Err why ∷ shares) all = ⊥

-- the runs of one call more that are in all that was found
abbrev pub reached_in : List After → List (Reached (Vec ℕ))
reached_in [] = []
reached_in (a ∷ more) = reached_by_next a.next ++ reached_in more

-- the outcome of a run that is over
abbrev pub over_by_next : Next → List Outcome
over_by_next (More rs) = []
over_by_next (Over o) = o ∷ []

abbrev pub over_in : List After → List Outcome
over_in [] = []
over_in (a ∷ more) = over_by_next a.next ++ over_in more

-- the states, where they are visited
abbrev pub visited_in : List After → List VisitedState
visited_in [] = []
visited_in (a ∷ more) = option_to_list a.visited ++ visited_in more

-- by how many calls the search goes on from a run: those that were not dropped for a private one
abbrev pub calls_by_next : Next → ℕ
calls_by_next (More rs) = length rs.items
calls_by_next (Over o) = 0

abbrev pub calls_in : List After → List ℕ
calls_in [] = []
calls_in (a ∷ more) = calls_by_next a.next ∷ calls_in more

-- whether each process stands so in all their states
abbrev pub all_stand : List After → Bool
all_stand [] = true
all_stand (a ∷ more) = a.stands && all_stand more

-- what came after each of these runs, one after the other, each with its key
abbrev pub AreAnswered : Runs → List (Found (Vec ℕ)) → List (Reached (Vec ℕ)) → Type 0
AreAnswered r [] next = next ≡ []
AreAnswered r (f ∷ fs) next = (own : List (Reached (Vec ℕ))) × (rest : List (Reached (Vec ℕ)))
    × AreNext r.instructions (seen_in_runs r f.state) f.state.items own × HaveKeys r own × (next ≡ own ++ rest)
    × AreAnswered r fs rest

-- So a level was answered. Where no move was left out, each process stands at a call or a trap in each of its states, or has ended.
abbrev pub Expands : Runs → List (Found (Vec ℕ)) → List (Reached (Vec ℕ)) → Bool → Type 0
Expands r level next is_whole = AreAnswered r level next × (is_whole ≡ true → AllStand (seen_in (seen_in_runs r) level))

-- What is told of these runs is right: of what came after each, in their order, the outcome of each that is over, once; the state of each, where states
-- are visited; and by how many calls the search goes on from it.
pub record AreTold (r : Runs) (states : List (Found (Vec ℕ))) (over : List Outcome) (visited : List VisitedState) (calls : List ℕ) : Type 0 where
  pub afters : List After
  pub each : AreAfter r states afters
  pub over_are : over ≡ over_in afters
  pub visited_are : visited ≡ visited_in afters
  pub calls_are : calls ≡ calls_in afters
