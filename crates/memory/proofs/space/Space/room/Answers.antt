-- Runs that are alike are room.
use Rattle.std.proofs.Common.{◌≡◌, ℕ, List, map, sym, ap, ◌∙◌, subst}
use Rattle.memory_model.specs.Memory.{Memory}
use Rattle.memory.specs.Pages.{Pages, words_of}
use Rattle.memory.specs.Words.{memory_of_words}
use Rattle.memory.specs.Rooms.{IsRoomFor}
use Rattle.memory.proofs.Rooms.{alike-room}
use Rattle.memory.proofs.space.Space.room.Goals as goal

pub returns : goal.returns
returns c =
    let own : List Pages = c.in_ok-own_room.field-0 in
    let shared : List Pages = map (λ a. a.value) c.in_ok-shares_of.field-0.items in
    let same : shared ≡ map (λ a. a.value) c.self.inside.shared.items = c.in_ok-shares_of.ensures ∙ ap (map (λ a. a.value)) c.as_slice.ensures.value in
    let is : memory_of_words (words_of c.self.inside.own shared) ≡ c.args.self.now = ap (λ (s : List Pages). memory_of_words (words_of c.self.inside.own s)) same ∙ c.self.view_is in
    subst (IsRoomFor (memory_of_words (words_of own shared))) is (alike-room own c.self.inside.own shared c.in_ok-own_room.ensures)
