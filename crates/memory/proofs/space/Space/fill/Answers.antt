-- The bytes of all own runs stand in the room.
use Rattle.std.proofs.Common.{◌≡◌, ℕ, ◌/◌, ◌^◌, ◌<◌, List, map, sym, ap, ◌∙◌}
use Rattle.std.specs.FinMap.{get}
use Rattle.memory_model.specs.Memory.{Memory}
use Rattle.memory.specs.Pages.{Pages}
use Rattle.memory.proofs.Rooms.{filled}
use Rattle.memory.proofs.Standing.{each}
use Rattle.memory.proofs.space.Space.fill.Goals as goal

pub returns : goal.returns
returns c =
    let new : Memory = c.fill_runs.new.self in
    let from : Memory = c.args.from.now in
    let own : List Pages = c.from.inside.own in
    filled new from own (map (λ a. a.value) c.from.inside.shared.items) c.fill_runs.ensures.room c.from.view_is
    (λ i d l a h has.
    each c.parts.result.0.now c.parts.result.1.now c.parts.result.2.now own (get new a ≡ get from a) (a / 4) c.parts.ensures
    (λ its. c.fill_runs.ensures.kept a (c.fill_run-2.ensures.kept a (c.fill_run.ensures.run a h its)))
    (λ its. c.fill_runs.ensures.kept a (c.fill_run-2.ensures.run a h its))
    (λ j e k its. c.fill_runs.ensures.runs j e k a h its) i d l has)
