-- What is noted of a core before it accepts an event.
use Rattle.std.specs.Prelude.{◌≡◌, length, map, Option, None, IfSome, IsSomeAnd}
use Rattle.machine_model.specs.States.{State}
use Rattle.kernel_model.specs.Answers.{Kernel, now, changes, terminals, refusal, answer, with_event, process_of}
use Rattle.kernel_model.specs.Shown.{printed}
use Rattle.kernel_model.specs.declared.answer.Answer.{Answer}
use Rattle.kernel_model.specs.declared.event.Event.{Event}
use Rattle.run_events.specs.Records.{process_in, call_site, request}
use Rattle.run_events.specs.declared.before.Before.{Before}

-- a machine, if one is given, has the state of the event's process
abbrev pub IsMachineOf : Kernel → Event → Option State → Type 0
IsMachineOf k e machine = IfSome machine (λ s. IsSomeAnd (process_of k (process_in e)) (λ p. s ≡ p.state))

-- this was noted before an event: how many changes and processes there are, how many bytes were written to each terminal, and what the
-- event's process is about to do
pub record IsBefore (k : Kernel) (e : Event) (b : Before) : Type 0 where
  pub changes : b.changes ≡ changes (now k)
  pub processes : b.processes ≡ length (now k).sync.processes
  pub written : b.written ≡ map (λ t. length (printed t (now k).log)) terminals
  pub call_site : b.call_site ≡ call_site k e
  pub request : b.request ≡ request k e
  pub machine : IsMachineOf k e b.machine

-- a core accepted an event with this answer, and this was noted before
pub record IsAccepted (b : Before) (e : Event) (a : Answer) (k new : Kernel) : Type 0 where
  pub before : IsBefore k e b
  pub fine : refusal k e ≡ None
  pub answer : a ≡ answer k e
  pub grown : new ≡ with_event k e
