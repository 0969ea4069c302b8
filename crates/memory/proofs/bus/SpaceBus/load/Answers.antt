-- A load gives what stands in the word that it lies in.
use Rattle.std.proofs.Common.{◌≡◌, ℕ, ◌/◌, ◌%◌, ◌==◌, sym, ap, ◌∙◌, None, true, Some, Option, map, rules, arith}
use Rattle.memory_model.specs.Access.{size, loaded, to_read}
use Rattle.memory.specs.Words.{Word}
use Rattle.memory.specs.Pages.{word_in, words_of}
use Rattle.memory.proofs.WordAccess.{taken-aligned}
use Rattle.memory.proofs.bus.SpaceBus.load.Goals as goal

pub returns-in-Some : goal.returns-in-Some
returns-in-Some c =
    let words : ℕ → Option Word = words_of c.self.inside.own (map (λ a. a.value) c.self.inside.shared.items) in
    let found : words (c.args.at / 4) ≡ Some (word_in c.in-Some.field-0-1 c.in-Some.part.now (c.args.at / 4)) =
    sym (c.in-Some.ensures.word ∙ (λ i. words_of c.self.inside.own (map (λ a. a.value) (c.as_slice.ensures.value i)) (c.args.at / 4))) in
    let aligned : (c.args.at % size c.args.width == 0) ≡ true = search rules in
    c.load.ensures c.in-Some.field-0-1
    ∙ sym (taken-aligned to_read words c.args.at c.args.width _ (omega arith) aligned found)
    ∙ ap (λ m. loaded m c.args.at c.args.width) c.self.view_is

pub returns-in-None : goal.returns-in-None
returns-in-None c =
    let words : ℕ → Option Word = words_of c.self.inside.own (map (λ a. a.value) c.self.inside.shared.items) in
    let missing : words (c.args.at / 4) ≡ None =
    sym (c.in-None.ensures.word ∙ (λ i. words_of c.self.inside.own (map (λ a. a.value) (c.as_slice.ensures.value i)) (c.args.at / 4))) in
    let aligned : (c.args.at % size c.args.width == 0) ≡ true = search rules in
    sym (taken-aligned to_read words c.args.at c.args.width None (omega arith) aligned missing)
    ∙ ap (λ m. loaded m c.args.at c.args.width) c.self.view_is
