-- Events and calls as moves, and which of them are independent.
use Rattle.std.specs.Prelude.{ℕ, ◌==◌, ◌&&◌, not, Bool, true, false, List, [], ◌∷◌, ◌++◌, map, filter, Option, Some, None, option_to_list}
use Rattle.kernel_model.specs.Entries.{Entry, Item, is_among, meets}
use Rattle.kernel_model.specs.Shown.{bytes_for}
use Rattle.kernel_model.specs.State.{SyncState}
use Rattle.kernel_model.specs.Steps.{step}
use Rattle.kernel_model.specs.World.{Boot, first_world}
use Rattle.kernel_model.specs.declared.carrier.Carrier.{Carrier}
use Rattle.kernel_model.specs.declared.carrier.Carrier.TheVariants.{Proc}
use Rattle.kernel_model.specs.declared.effect.Output.{Output}
use Rattle.kernel_model.specs.declared.event.Event.{Event}
use Rattle.kernel_model.specs.declared.event.Event.TheVariants.{Turn, Enter, Cut, Complete, Fail}
use Rattle.order_laws.specs.Orders.{System, reached}

-- what there is to see of a run, where all is committed: the synchronous state, and all bytes written to each terminal
pub record Seen : Type 0 where
  pub sync : SyncState
  pub texts : ℕ → List ℕ

-- the run before any event
abbrev pub first_seen : Boot → Seen
first_seen b = record { sync = (first_world b).sync; texts = λ t. [] }

-- what an event did, but for its change: that names its file by its place, which another order may move
pub record Label : Type 0 where
  pub process : ℕ
  pub reads : List Carrier
  pub writes : List Carrier
  pub output : Option Output
  pub item : Option Item
  pub child : Option ℕ

abbrev pub label_of : Entry → Label
label_of e = record { process = e.process; reads = e.reads; writes = e.writes; output = e.output; item = e.item; child = e.child }

-- both write to one terminal
abbrev pub is_one_terminal : Option Output → Option Output → Bool
is_one_terminal None b = false
is_one_terminal (Some a) None = false
is_one_terminal (Some a) (Some b) = a.terminal == b.terminal

-- Two events are independent: neither writes what the other reads, and they do not write to one terminal. What an event writes it also
-- reads, so neither writes what the other writes.
abbrev pub are_independent : Label → Label → Bool
are_independent a b = not (meets a.writes b.reads) && not (meets b.writes a.reads) && not (is_one_terminal a.output b.output)

-- something comes of it: a call that waits writes nothing, and neither does an event that its process cannot have
abbrev pub writes_some : Label → Bool
writes_some l = is_filled l.writes
  where
    is_filled : List Carrier → Bool
    is_filled [] = false
    is_filled (c ∷ cs) = true

-- the process whose event it is, 0 for the disk's
abbrev pub process_of_event : Event → ℕ
process_of_event (Turn pid n) = pid
process_of_event (Enter pid) = pid
process_of_event Cut = 0
process_of_event (Complete at) = 0
process_of_event (Fail at) = 0

-- what an event does here
abbrev pub label_in : Seen → Event → Label
label_in s e = label_of (step s.sync e).entry

-- the run after one more event
abbrev pub seen_after : Seen → Event → Seen
seen_after s e = record { sync = (step s.sync e).state; texts = λ t. s.texts t ++ bytes_for t (label_in s e).output }

-- events as moves
abbrev pub events : System Seen Event Label
events = record { go = seen_after; label = label_in; works = writes_some; independent = are_independent; rank = process_of_event }

-- ---- calls as moves

-- Of these processes those that an event wrote: its own, and one that it made. They are the ones that can go on now.
abbrev pub wrote : Label → List ℕ → List ℕ
wrote l ps = filter (λ p. is_among (Proc p) l.writes) ps

-- each of these processes runs, at most n instructions
abbrev pub turns : ℕ → List ℕ → List Event
turns n ps = map (λ p. Turn p n) ps

-- The move of process p: it carries out the call, or ends by the trap, at which it stands, and runs on to the next one; so does a process
-- that it makes. Each runs at most n instructions.
abbrev pub call_of : ℕ → Label → ℕ → List Event
call_of n l p = Enter p ∷ turns n (wrote l (p ∷ option_to_list l.child))

abbrev pub call_after : ℕ → Seen → ℕ → Seen
call_after n s p = reached events s (call_of n (label_in s (Enter p)) p)

-- calls as moves: whoever stands at a call or a trap may move
abbrev pub calls : ℕ → System Seen ℕ Label
calls n = record { go = call_after n; label = λ s p. label_in s (Enter p); works = writes_some; independent = are_independent; rank = λ p. p }
