-- The cone of an event: the events with a path to it. And the visible events: those that rest on committed changes alone.
use Rattle.std.specs.Prelude.{◌≡◌, ℕ, zero, suc, ◌+◌, ◌-◌, ◌==◌, ◌&&◌, not, Bool, true, if◌then◌else◌, List, [], ◌∷◌, ◌++◌, take, slice_get, Option, Some, None, is_some}
use Rattle.kernel_model.specs.Entries.{Entry, meets}
use Rattle.kernel_model.specs.Paths.{Leads, wanted, is_durable, change_count}
use Rattle.kernel_model.specs.Steps.{step}
use Rattle.kernel_model.specs.World.{World, Boot, run_of}
use Rattle.kernel_model.specs.declared.carrier.Carrier.{Carrier}
use Rattle.kernel_model.specs.declared.event.Event.{Event}
use Rattle.kernel_model.specs.declared.event.Event.TheVariants.{Turn, Enter, Cut, Complete, Fail}

-- the elements whose flag is set; an element past the last flag is left out
abbrev pub selected : {A : Type 0} → List Bool → List A → List A
selected [] xs = []
selected (flag ∷ flags) [] = []
selected (flag ∷ flags) (x ∷ xs) = if flag then x ∷ selected flags xs else selected flags xs

-- the numbers of the flags that are set, where the first flag has the number n
abbrev pub numbers_selected : ℕ → List Bool → List ℕ
numbers_selected n [] = []
numbers_selected n (flag ∷ flags) = if flag then n ∷ numbers_selected (n + 1) flags else numbers_selected (n + 1) flags

-- the numbers of the changes that the selected entries make, where the first change of all these entries has the number n
abbrev pub changes_selected : ℕ → List Bool → List Entry → List ℕ
changes_selected n [] es = []
changes_selected n (flag ∷ flags) [] = []
changes_selected n (flag ∷ flags) (e ∷ es) =
    if flag && is_some e.change then n ∷ changes_selected (n + change_count e) flags es else changes_selected (n + change_count e) flags es

-- the list ys begins with xs
pub record IsBeginningOf {A : Type 0} (xs ys : List A) : Type 0 where
  pub rest : List A
  pub is : ys ≡ xs ++ rest

-- ---- the cone of an event

-- A path leads to the entry e from the entry at place i, counted from 0, of the log before e.
abbrev pub HasPath : List Entry → Entry → ℕ → Type 0
HasPath [] e i = ⊥
HasPath (x ∷ xs) e zero = Leads x.writes xs e.reads
HasPath (x ∷ xs) e (suc i) = HasPath xs e i

-- a flag for each entry of a log: a path leads from it to a reader of `rs` that comes after the log
abbrev pub path_flags : List Entry → List Carrier → List Bool
path_flags [] rs = []
path_flags (e ∷ es) rs = meets e.writes (wanted es rs) ∷ path_flags es rs

-- a flag for each entry of a log, and for the entry e that comes after it: it is in the cone of e
abbrev pub cone_flags : List Entry → Entry → List Bool
cone_flags past e = path_flags past e.reads ++ true ∷ []

-- the entry of an event that comes after these events
abbrev pub entry_of : Boot → List Event → Event → Entry
entry_of b es e = (step (run_of b es).sync e).entry

-- the events of the cone of e, in order, where e comes after the events es; without e itself
abbrev pub cone_before : Boot → List Event → Event → List Event
cone_before b es e = selected (path_flags (run_of b es).log (entry_of b es e).reads) es

-- the numbers, counted from 1, of the cone's entries, where event n of the log has this entry; none where it has none
abbrev pub cone_numbers : List Entry → ℕ → Option Entry → List ℕ
cone_numbers log n None = []
cone_numbers log n (Some e) = numbers_selected 1 (cone_flags (take (n - 1) log) e)

-- the numbers, counted from 1, of the events in the cone of event n
abbrev pub cone : World → ℕ → List ℕ
cone w n = cone_numbers w.log n (slice_get w.log (n - 1))

-- ---- the visible events

-- the entry of a process's event, after these entries, rests on the first c changes alone
abbrev pub is_visible : ℕ → List Entry → Entry → Bool
is_visible c past e = not (e.process == 0) && is_durable c past e

-- a flag for each of these entries, which come after `past`: it is visible where the first c changes are committed
abbrev pub visible_flags : ℕ → List Entry → List Entry → List Bool
visible_flags c past [] = []
visible_flags c past (e ∷ es) = is_visible c past e ∷ visible_flags c (past ++ e ∷ []) es

-- the processes' events, in order, that rest on committed changes alone
abbrev pub visible : Boot → List Event → List Event
visible b es = selected (visible_flags (run_of b es).storage.committed [] (run_of b es).log) es

-- ---- whose event it is

-- the event is a process's, and not the disk's
abbrev pub IsOfProcess : Event → Type 0
IsOfProcess (Turn pid n) = Unit {0}
IsOfProcess (Enter pid) = Unit {0}
IsOfProcess Cut = ⊥
IsOfProcess (Complete at) = ⊥
IsOfProcess (Fail at) = ⊥
