-- The first part that has a word has the word of the memory.
use Rattle.std.proofs.Common.{sym, ap, ◌∙◌, None, Some, map, false}
use Rattle.memory.specs.Pages.{Pages, has_word, word_in, word_among}
use Rattle.memory.proofs.Places.{shared-found, shared-missing, shared-has}
use Rattle.memory.proofs.Putting.{shared-along}
use Rattle.memory.proofs.place.part_of.Goals as goal

pub returns-in-Some-place_of_shared-clause-word :
    goal.returns-in-Some-place_of_shared-clause-word
returns-in-Some-place_of_shared-clause-word c =
    ap (λ (p : Pages). Some (word_in false p c.args.n)) c.deref.ensures
    ∙ sym (c.in_default.ensures.missing (word_among false (map (λ a. a.value) c.args.shared.now) None c.args.n)
    ∙ shared-found (λ a. a.value) false c.args.shared.now None c.in-Some-place_of_shared.i c.args.n c.index-shared-i.result (sym c.in-Some-place_of_shared.ensures) c.index-shared-i.is)

pub returns-in-Some-place_of_shared-clause-here :
    goal.returns-in-Some-place_of_shared-clause-here
returns-in-Some-place_of_shared-clause-here c =
    ap (λ (p : Pages). has_word p c.args.n) c.deref.ensures
    ∙ shared-has (λ a. a.value) c.args.shared.now c.in-Some-place_of_shared.i c.args.n c.index-shared-i.result (sym c.in-Some-place_of_shared.ensures) c.index-shared-i.is

pub returns-clause-word : goal.returns-clause-word
returns-clause-word c =
    sym (c.in_default.ensures.missing (word_among false (map (λ a. a.value) c.args.shared.now) None c.args.n)
    ∙ shared-missing (λ a. a.value) false c.args.shared.now None c.args.n (sym c.place_of_shared.ensures ∙ c.in_default-place_of_shared.is))

pub returns-in-Some-place_of_shared-clause-along : goal.returns-in-Some-place_of_shared-clause-along
returns-in-Some-place_of_shared-clause-along c = λ m both shared has.
    c.in_default.ensures.none_along (word_among false (map (λ a. a.value) c.args.shared.now) None m) m both
    ∙ shared-along (λ a. a.value) c.args.shared.now None c.in-Some-place_of_shared.i c.args.n m c.index-shared-i.result shared (sym c.in-Some-place_of_shared.ensures) c.index-shared-i.is (ap (λ (p : Pages). has_word p m) (sym c.deref.ensures) ∙ has)
    ∙ ap (λ (p : Pages). Some (word_in false p m)) (sym c.deref.ensures)
