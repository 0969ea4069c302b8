-- A search of the calls of programs by keys, and what it finds of the outcomes of all orders.
use Rattle.std.specs.Prelude.{◌≡◌, ℕ, ◌≤◌, ◌⊎◌, Bool, true, List, [], ◌++◌, length, map}
use Rattle.std.specs.List.{Contains}
use Rattle.kernel_model.specs.World.{Boot}
use Rattle.kernel_model.specs.declared.event.Event.{Event}
use Rattle.order_laws.specs.Moves.{Seen, calls}
use Rattle.order_laws.specs.Orders.{IsComplete, reached}
use Rattle.order_laws.specs.Outcomes.{AllStand, HasOutcomes}
use Rattle.order_laws.specs.Privacy.{IsPrivate}
use Rattle.order_laws.specs.Searches.{FoundState, HasState, WentOnFrom}
use Rattle.replayed_runs.specs.Replays.{start}
use Rattle.state_search.specs.Searches.{Answer, HasKey, HasPart, HasSearched}
use Rattle.state_search.specs.Sharing.{IsShared}
use Rattle.state_search.specs.declared.moves.Found.{Found}
use Rattle.state_search.specs.declared.moves.Reached.{Reached}

-- what a state that was found stands for, as `seen` says
abbrev pub state_in : {S : Type 0} → (S → Seen) → Found S → FoundState Seen
state_in seen f = record { state = seen f.state; moves = f.moves }

abbrev pub seen_in : {S : Type 0} → (S → Seen) → List (Found S) → List (FoundState Seen)
seen_in seen found = map (state_in seen) found

-- ---- what is asked of the moves

-- a state that was answered stands for this
abbrev pub IsAnswered : {S : Type 0} → (S → Seen) → List (Reached S) → Seen → Type 0
IsAnswered {S = S} seen next s = (r : Reached S) × Contains next r × (seen r.state ≡ s)

-- For each state of a level this was answered: the state after one private call, or the state after each call that does something.
abbrev pub AreCalls : {S : Type 0} → ℕ → (S → Seen) → List (Found S) → List (Reached S) → Type 0
AreCalls {S = S} n seen level next = (f : Found S) → Contains level f →
    ((p : ℕ) × IsPrivate (seen f.state) p × IsAnswered seen next ((calls n).go (seen f.state) p))
    ⊎ ((p : ℕ) → (calls n).works ((calls n).label (seen f.state) p) ≡ true → IsAnswered seen next ((calls n).go (seen f.state) p))

-- The first state that was answered is where each process of the boot first stops, and each level was answered with calls. Where no move was left out,
-- each process stands at a call or a trap in each state of the level, or has ended.
pub record AnswersCalls {S : Type 0} (n : ℕ) (b : Boot) (seen : S → Seen) (first : Reached S) (answers : List (Answer S)) : Type 0 where
  pub begins : seen first.state ≡ start n b
  pub each : (a : Answer S) → Contains answers a → AreCalls n seen a.level a.next
  pub stand : (a : Answer S) → Contains answers a → a.is_whole ≡ true → AllStand (seen_in seen a.level)

-- ---- what is asked of the keys

-- A state that was found stands for the same as one that was answered with the same key.
abbrev pub TellsApart : {S : Type 0} → (S → Seen) → List (Found S) → Reached S → Type 0
TellsApart {S = S} seen found r = (f : Found S) → Contains found f → f.key ≡ r.key → seen f.state ≡ seen r.state

-- Keys told the states of a search apart: the first one, and all that were answered.
pub record KeysTell {S : Type 0} (seen : S → Seen) (first : Reached S) (answers : List (Answer S)) (found : List (Found S)) : Type 0 where
  pub begin : TellsApart seen found first
  pub each : (a : Answer S) → Contains answers a → (r : Reached S) → Contains a.next r → TellsApart seen found r

-- ---- what is found

-- The end of each complete order of at most `depth` calls was found, by no more calls. And where no state was left, and no move left out, the outcomes of
-- every run were found, whatever its events.
pub record FindsAll {S : Type 0} (n : ℕ) (b : Boot) (seen : S → Seen) (gone_on left : List (Found S)) (depth : ℕ) (is_whole : Bool) : Type 0 where
  pub ends : (ps : List ℕ) → IsComplete (calls n) (start n b) ps → length ps ≤ depth → HasState (seen_in seen (gone_on ++ left)) (reached (calls n) (start n b) ps) (length ps)
  pub outcomes : left ≡ [] → is_whole ≡ true → (es : List Event) → HasOutcomes n b (seen_in seen (gone_on ++ left)) es

-- A search by keys, of so many states from which it went on: if it was answered with the calls of a boot, of which each process runs at most n
-- instructions to its next call, and if its keys told its states apart, it found all.
pub record FindsByKeys {S : Type 0} (begins : Reached S → Type 0) (expands : List (Found S) → List (Reached S) → Bool → Type 0) (many : ℕ) (left : List (Found S)) (depth : ℕ) (is_whole : Bool) : Type 0 where
  pub searched : HasSearched begins expands many left depth is_whole
  pub finds : (n : ℕ) (b : Boot) (seen : S → Seen) → AnswersCalls n b seen searched.part.first searched.part.answers
      → KeysTell seen searched.part.first searched.part.answers (searched.gone_on ++ left) → FindsAll n b seen searched.gone_on left depth is_whole

-- ---- what parts find together

-- each of these states is among the states of all parts, by its key, and by no more calls
abbrev pub AreFound : {S : Type 0} → List (Found S) → List (Found S) → Type 0
AreFound {S = S} found all = (f : Found S) → Contains found f → HasKey all f.key f.moves

-- From each state from which a part went on, a private call or each that does something leads to states of all parts, by a call more at most. Where the
-- part left no move out, each process stands there at a call or a trap, or has ended. And all parts have the state where each process first stops.
pub record GoesOn {S : Type 0} (n : ℕ) (b : Boot) (seen : S → Seen) (gone_on all : List (Found S)) (is_whole : Bool) : Type 0 where
  pub begins : HasState (seen_in seen all) (start n b) 0
  pub goes_on : (f : Found S) → Contains gone_on f → WentOnFrom (calls n) IsPrivate (seen_in seen all) (state_in seen f)
  pub stand : is_whole ≡ true → AllStand (seen_in seen gone_on)

-- A part of a search by keys. Let it be answered with the calls of a boot. Let the states of all parts be told apart by keys, and let what the part
-- found be among them, also what it left to others. Then it goes on to states of all parts. So where each state of all is one from which some part
-- went on, all parts together are a search that left none. Where no part left a move out, neither did they. What it left to others is other parts' own
-- of a level that was shared out.
pub record FindsItsPart {S : Type 0} (begins : Reached S → Type 0) (expands : List (Found S) → List (Reached S) → Bool → Type 0) (number of many : ℕ) (left others : List (Found S)) (depth : ℕ) (is_whole : Bool) : Type 0 where
  pub searched : HasPart begins expands many left others depth is_whole
  pub shared : (others ≡ []) ⊎ IsShared begins expands number of searched.gone_on others
  pub finds : (n : ℕ) (b : Boot) (seen : S → Seen) (all : List (Found S)) → AnswersCalls n b seen searched.part.first searched.part.answers
      → KeysTell seen searched.part.first searched.part.answers all → AreFound (others ++ (searched.gone_on ++ left)) all → GoesOn n b seen searched.gone_on all is_whole
