-- Event by event.
use Rattle.std.proofs.Common.{◌≡◌, List, [], ◌∷◌}
use Rattle.kernel_model.specs.Answers.{Kernel, with_event, with_events}
use Rattle.kernel_model.specs.Drains.{Drains}
use Rattle.kernel_model.specs.declared.event.Event.{Event}
use Rattle.kernel_laws.proofs.drains_are_events.Goals as goal

are-events : (k : Kernel) (events : List Event) (new : Kernel) → Drains k events new → new ≡ with_events k events
are-events k [] new h = h
are-events k (e ∷ es) new h = are-events (with_event k e) es new h.4

pub returns : goal.returns
returns c = are-events
