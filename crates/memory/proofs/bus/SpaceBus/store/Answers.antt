-- A store changes the word that it lies in, or says why it does not.
use Rattle.std.proofs.Common.{◌≡◌, ℕ, ◌/◌, ◌%◌, ◌==◌, sym, ap, ◌∙◌, None, Err, true, false, Option, Some, map, rules, arith, position, refl}
use Rattle.memory_model.specs.Access.{size, access_fault, or_fault, stored, to_write}
use Rattle.memory_model.specs.declared.access.BusFault.{BusFault}
use Rattle.memory_model.specs.declared.access.BusFault.TheVariants.{Unmapped, NoRight}
use Rattle.memory.specs.Words.{Word, word_fault}
use Rattle.memory.specs.Pages.{has_word, word_among, words_of}
use Rattle.memory.proofs.WordAccess.{access_fault-aligned}
use Rattle.memory.proofs.Places.{shared-missing, fixed-found}
use Rattle.memory.proofs.bus.SpaceBus.store.Goals as goal
use Rattle.memory.proofs.bus.SpaceBus.store.Goals.{in-Some, in-None}

pub returns-then-store-clause-answer : goal.returns-then-store-clause-answer
returns-then-store-clause-answer c =
    let rest : ℕ → Option Word = λ n. word_among false (map (λ a. a.value) c.self.inside.shared.items) None n in
    let words : ℕ → Option Word = words_of c.self.inside.own (map (λ a. a.value) c.self.inside.shared.items) in
    let aligned : (c.args.at % size c.args.width == 0) ≡ true = search rules in
    sym (ap (λ f. or_fault f tt) (access_fault-aligned to_write words c.args.at c.args.width _ (omega arith) aligned refl ∙ (c.if-store.ensures.done refl).0 (rest (c.args.at / 4))))
    ∙ ap (λ m. or_fault (access_fault to_write m c.args.at c.args.width) tt) c.self.view_is

pub returns-then-store-clause-ok : goal.returns-then-store-clause-ok
returns-then-store-clause-ok c =
    let rest : ℕ → Option Word = λ n. word_among false (map (λ a. a.value) c.self.inside.shared.items) None n in
    (c.if-store.ensures.done refl).1 rest ∙ ap (λ m. stored m c.args.at c.args.width c.args.value) c.self.view_is

pub returns-clause-answer : goal.returns-clause-answer
returns-clause-answer c =
    let words : ℕ → Option Word = words_of c.self.inside.own (map (λ a. a.value) c.self.inside.shared.items) in
    let none : words (c.args.at / 4) ≡ word_among false (map (λ a. a.value) c.self.inside.shared.items) None (c.args.at / 4) = c.if-store.ensures.missing refl _ in
    let aligned : (c.args.at % size c.args.width == 0) ≡ true = search rules in
    let by_fault : (f : BusFault) → word_fault to_write (words (c.args.at / 4)) ≡ Some f → Err f ≡ or_fault (access_fault to_write c.args.self.now c.args.at c.args.width) tt =
    λ f e. sym (ap (λ f. or_fault f tt) (access_fault-aligned to_write words c.args.at c.args.width _ (omega arith) aligned refl ∙ e)) ∙ ap (λ m. or_fault (access_fault to_write m c.args.at c.args.width) tt) c.self.view_is in
    elim c.match-place_of_shared.branch [
      | in-Some w ↦
          w.result-is ∙ by_fault NoRight (ap (word_fault to_write) none ∙ fixed-found (λ a. a.value) c.self.inside.shared.items None (c.args.at / 4) w.in-Some.field-0 (sym (w.in-Some.ensures ∙ ap (position (λ a. has_word a.value (c.args.at / 4))) c.as_slice.ensures.value)))
      | in-None w ↦
          w.result-is ∙ by_fault Unmapped (ap (word_fault to_write) (none ∙ shared-missing (λ a. a.value) false c.self.inside.shared.items None (c.args.at / 4) (sym (w.in-None.ensures ∙ ap (position (λ a. has_word a.value (c.args.at / 4))) c.as_slice.ensures.value))))
    ]
