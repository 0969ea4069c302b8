-- A fetch gives the word that stands there.
use Rattle.std.proofs.Common.{◌≡◌, ℕ, ◌/◌, ◌%◌, ◌==◌, sym, ap, ◌∙◌, None, true, Some, Option, map, rules, arith}
use Rattle.memory_model.specs.Access.{fetched}
use Rattle.memory.specs.Words.{Word}
use Rattle.memory.specs.Pages.{word_in, words_of}
use Rattle.memory.proofs.WordAccess.{fetched-aligned}
use Rattle.memory.proofs.space.Space.fetch.Goals as goal

pub returns-in-Some : goal.returns-in-Some
returns-in-Some c =
    let words : ℕ → Option Word = words_of c.self.inside.own (map (λ a. a.value) c.self.inside.shared.items) in
    let found : words (c.args.at / 4) ≡ Some (word_in c.in-Some.field-0-1 c.in-Some.part.now (c.args.at / 4)) =
    sym (c.in-Some.ensures.word ∙ (λ i. words_of c.self.inside.own (map (λ a. a.value) (c.as_slice.ensures.value i)) (c.args.at / 4))) in
    let aligned : (c.args.at % 4 == 0) ≡ true = search rules in
    c.fetch.ensures c.in-Some.field-0-1
    ∙ sym (fetched-aligned words c.args.at _ (omega arith) aligned found)
    ∙ ap (λ m. fetched m c.args.at) c.self.view_is

pub returns-in-None : goal.returns-in-None
returns-in-None c =
    let words : ℕ → Option Word = words_of c.self.inside.own (map (λ a. a.value) c.self.inside.shared.items) in
    let missing : words (c.args.at / 4) ≡ None =
    sym (c.in-None.ensures.word ∙ (λ i. words_of c.self.inside.own (map (λ a. a.value) (c.as_slice.ensures.value i)) (c.args.at / 4))) in
    let aligned : (c.args.at % 4 == 0) ≡ true = search rules in
    sym (fetched-aligned words c.args.at None (omega arith) aligned missing)
    ∙ ap (λ m. fetched m c.args.at) c.self.view_is
