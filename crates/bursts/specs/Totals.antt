-- The four numbers of a history, and what events add to them.
use Rattle.std.specs.Prelude.{ℕ, ◌+◌, ◌<◌, ◌^◌, length, Some, None}
use Rattle.kernel_model.specs.Answers.{Kernel}
use Rattle.kernel_model.specs.Ran.{ran_by_turns, ran_in}
use Rattle.kernel_model.specs.declared.answer.Answer.{Answer}
use Rattle.kernel_model.specs.declared.answer.Answer.TheVariants.{Settled}
use Rattle.kernel_model.specs.declared.event.Event.{Event}
use Rattle.kernel_model.specs.declared.event.Event.TheVariants.{Turn, Enter, Cut, Complete, Fail}
use Rattle.kernel.specs.Sums.{sum_of_turns, sum_of_enters}
use Rattle.bursts.specs.declared.totals.Totals.{Totals}

-- those of no events
abbrev pub none : Totals
none = record { events = 0; ran = 0; turns = 0; enters = 0 }

-- added up
abbrev pub plus : Totals → Totals → Totals
plus a b = record { events = a.events + b.events; ran = a.ran + b.ran; turns = a.turns + b.turns; enters = a.enters + b.enters }

-- those of a core's history
abbrev pub history_totals : Kernel → Totals
history_totals k = record { events = length k.history; ran = ran_by_turns k; turns = sum_of_turns k.history; enters = sum_of_enters k.history }

-- what a result of process pid adds that was taken back with this answer: its Turn and, where it had one, its Enter
abbrev pub settled_totals : ℕ → Answer → Totals
settled_totals pid (Settled count stop None) = record { events = 1; ran = count; turns = pid; enters = 0 }
settled_totals pid (Settled count stop (Some outcome)) = record { events = 2; ran = count; turns = pid; enters = pid }
settled_totals pid _ = none

-- one event that ran nothing, and in which no process took part
abbrev pub one_event : Totals
one_event = record { events = 1; ran = 0; turns = 0; enters = 0 }

-- what an event adds that was accepted with this answer: a Cut, a completion or a failure adds one event alone
abbrev pub event_totals : Event → Answer → Totals
event_totals (Turn pid n) a = record { events = 1; ran = ran_in a; turns = pid; enters = 0 }
event_totals (Enter pid) a = record { events = 1; ran = 0; turns = 0; enters = pid }
event_totals Cut a = one_event
event_totals (Complete at) a = one_event
event_totals (Fail at) a = one_event

-- each of them is a u64
abbrev pub Fit : Totals → Type 0
Fit t = (t.events < 2 ^ 64) × (t.ran < 2 ^ 64) × (t.turns < 2 ^ 64) × (t.enters < 2 ^ 64)
