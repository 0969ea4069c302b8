-- Why a store is refused, by the word that it lies in.
use Rattle.std.proofs.Common.{◌≡◌, ℕ, ◌/◌, ◌%◌, ◌==◌, sym, ap, ◌∙◌, None, true, Some, Option, map, rules, arith}
use Rattle.memory_model.specs.Access.{size, access_fault, to_write}
use Rattle.memory.specs.Words.{Word, word_fault}
use Rattle.memory.specs.Pages.{word_in, words_of}
use Rattle.memory.proofs.WordAccess.{access_fault-aligned}
use Rattle.memory.proofs.space.Space.store_fault.Goals as goal

pub returns-in-Some-default-true : goal.returns-in-Some-default-true
returns-in-Some-default-true c =
    let words : ℕ → Option Word = words_of c.self.inside.own (map (λ a. a.value) c.self.inside.shared.items) in
    let arm = c.in-Some-default-true in
    let found : words (c.args.at / 4) ≡ Some (word_in arm.field-0-1 arm.field-0-0.now (c.args.at / 4)) =
    sym (arm.ensures.word ∙ (λ i. words_of c.self.inside.own (map (λ a. a.value) (c.as_slice.ensures.value i)) (c.args.at / 4))) in
    let aligned : (c.args.at % size c.args.width == 0) ≡ true = search rules in
    ap (λ b. word_fault to_write (Some (word_in b arm.field-0-0.now (c.args.at / 4)))) (sym arm.field-0-1-test)
    ∙ sym (access_fault-aligned to_write words c.args.at c.args.width _ (omega arith) aligned found)
    ∙ ap (λ m. access_fault to_write m c.args.at c.args.width) c.self.view_is

pub returns-in-Some-default-false : goal.returns-in-Some-default-false
returns-in-Some-default-false c =
    let words : ℕ → Option Word = words_of c.self.inside.own (map (λ a. a.value) c.self.inside.shared.items) in
    let arm = c.in-Some-default-false in
    let found : words (c.args.at / 4) ≡ Some (word_in arm.field-0-1 arm.field-0-0.now (c.args.at / 4)) =
    sym (arm.ensures.word ∙ (λ i. words_of c.self.inside.own (map (λ a. a.value) (c.as_slice.ensures.value i)) (c.args.at / 4))) in
    let aligned : (c.args.at % size c.args.width == 0) ≡ true = search rules in
    ap (λ b. word_fault to_write (Some (word_in b arm.field-0-0.now (c.args.at / 4)))) (sym arm.field-0-1-test)
    ∙ sym (access_fault-aligned to_write words c.args.at c.args.width _ (omega arith) aligned found)
    ∙ ap (λ m. access_fault to_write m c.args.at c.args.width) c.self.view_is

pub returns-in-None : goal.returns-in-None
returns-in-None c =
    let words : ℕ → Option Word = words_of c.self.inside.own (map (λ a. a.value) c.self.inside.shared.items) in
    let missing : words (c.args.at / 4) ≡ None =
    sym (c.in-None.ensures.word ∙ (λ i. words_of c.self.inside.own (map (λ a. a.value) (c.as_slice.ensures.value i)) (c.args.at / 4))) in
    let aligned : (c.args.at % size c.args.width == 0) ≡ true = search rules in
    sym (access_fault-aligned to_write words c.args.at c.args.width None (omega arith) aligned missing)
    ∙ ap (λ m. access_fault to_write m c.args.at c.args.width) c.self.view_is
