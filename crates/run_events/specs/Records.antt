-- What an event of a run did, as one value.
use Rattle.std.specs.Prelude.{ℕ, ◌&&◌, nat_lt, if◌then◌else◌, List, [], ◌∷◌, length, flat_map, slice_index, Option, Some, None, option_map, option_to_list}
use Rattle.disk_model.specs.declared.change.Change.{Change}
use Rattle.machine_model.specs.States.{State, stopped_at}
use Rattle.machine_model.specs.declared.stop.Stop.{Stop}
use Rattle.machine_model.specs.declared.stop.Stop.TheVariants.{Limit, Call, Trap}
use Rattle.kernel_model.specs.Answers.{Kernel, now, process_of, answer, with_event}
use Rattle.kernel_model.specs.Entries.{Entry, Item}
use Rattle.kernel_model.specs.Requests.{request_of}
use Rattle.kernel_model.specs.Shown.{bytes_for, items_for}
use Rattle.kernel_model.specs.State.{Process}
use Rattle.kernel_model.specs.Steps.{step}
use Rattle.kernel_model.specs.World.{terminal_count}
use Rattle.kernel_model.specs.declared.answer.Answer.{Answer}
use Rattle.kernel_model.specs.declared.effect.Output.{Output}
use Rattle.kernel_model.specs.declared.event.Event.{Event}
use Rattle.kernel_model.specs.declared.event.Event.TheVariants.{Turn, Enter, Cut, Complete, Fail}
use Rattle.kernel_model.specs.declared.request.Request.{Request}
use Rattle.run_events.specs.declared.call_site.CallSite.{CallSite}

-- the process of an event; 0 for an event of the disk
abbrev pub process_in : Event → ℕ
process_in (Turn pid n) = pid
process_in (Enter pid) = pid
process_in Cut = 0
process_in (Complete at) = 0
process_in (Fail at) = 0

-- an output, unless nobody could see it: it has no bytes, or no terminal has its number
abbrev pub seen_output : Option Output → Option Output
seen_output None = None
seen_output (Some out) = if nat_lt out.terminal terminal_count && nat_lt 0 (length out.bytes) then Some out else None

-- an entry of the log, without an output that nobody could see
abbrev pub seen : Entry → Entry
seen e = record e { output = seen_output e.output }

-- ---- the call of an Enter

-- the request of a machine that stands so; none at a trap
abbrev pub request_at : Option Stop → State → Option Request
request_at None s = None
request_at (Some Limit) s = None
request_at (Some Call) s = Some (request_of s)
request_at (Some (Trap cause)) s = None

abbrev pub request_in : Option Process → Option Request
request_in None = None
request_in (Some p) = request_at (stopped_at p.state) p.state

-- what the process of an event asks for; only an Enter asks
abbrev pub request : Kernel → Event → Option Request
request k (Turn pid n) = None
request k (Enter pid) = request_in (process_of k pid)
request k Cut = None
request k (Complete at) = None
request k (Fail at) = None

-- where a machine stands at a call or a trap: the pc, a7, and a0 to a2
abbrev pub call_site_at : Stop → State → CallSite
call_site_at stop s = record {
  stop = stop;
  pc = s.architectural.pc;
  number = slice_index s.architectural.registers 17;
  arguments = slice_index s.architectural.registers 10 ∷ slice_index s.architectural.registers 11 ∷ slice_index s.architectural.registers 12 ∷ [];
}

abbrev pub call_site_in : Option Process → Option CallSite
call_site_in None = None
call_site_in (Some p) = option_map (λ stop. call_site_at stop p.state) (stopped_at p.state)

-- where the process of an event enters the kernel; only an Enter does
abbrev pub call_site : Kernel → Event → Option CallSite
call_site k (Turn pid n) = None
call_site k (Enter pid) = call_site_in (process_of k pid)
call_site k Cut = None
call_site k (Complete at) = None
call_site k (Fail at) = None

-- ---- records

-- an event and what it did: the core's answer, where its process entered the kernel and for what, and its entry of the log
pub record RunEvent : Type 0 where
  pub event : Event
  pub answer : Answer
  pub call_site : Option CallSite
  pub request : Option Request
  pub entry : Entry

-- what the next event of a run does
abbrev pub record_of : Kernel → Event → RunEvent
record_of k e = record { event = e; answer = answer k e; call_site = call_site k e; request = request k e; entry = seen (step (now k).sync e).entry }

-- what the next events of a run do, in order
abbrev pub records_of : Kernel → List Event → List RunEvent
records_of k [] = []
records_of k (e ∷ es) = record_of k e ∷ records_of (with_event k e) es

-- ---- sums of records

-- the bytes that they wrote to a terminal, in order
abbrev pub bytes_in : ℕ → List RunEvent → List ℕ
bytes_in t rs = flat_map (λ (r : RunEvent). bytes_for t r.entry.output) rs

-- the changes that they made, in order
abbrev pub changes_in : List RunEvent → List Change
changes_in rs = flat_map (λ (r : RunEvent). option_to_list r.entry.change) rs

-- what they told a process, in order
abbrev pub items_in : ℕ → List RunEvent → List Item
items_in p rs = flat_map (λ (r : RunEvent). items_for p r.entry) rs
