-- A part that is added adds its pages to the memory.
use Rattle.std.proofs.Common.{ℕ, ◌*◌, ◌∷◌, None, sym, ap, subst, ◌∙◌, Bool, List, map, cond, Some, false}
use Rattle.std.specs.FinMap.{get}
use Rattle.memory_model.specs.Memory.{Memory}
use Rattle.memory_model.specs.Access.{mapped}
use Rattle.memory.specs.Words.{memory_of_words}
use Rattle.memory.specs.Pages.{Adds, Pages, has_word, word_among, word_in, words_of, pages_of}
use Rattle.memory.proofs.Mapping.{shared-front, free-words, mapped-words}
use Rattle.memory.proofs.space.Space.map.Goals as goal

pub returns-in_ok-add-clause-ok : goal.returns-in_ok-add-clause-ok
returns-in_ok-add-clause-ok c =
    let own : List Pages = c.self.inside.own in
    let new : List Pages = c.add.new.self in
    let shared : List Pages = map (λ a. a.value) c.self.inside.shared.items in
    let page : ℕ = c.args.first_page in
    let bytes : List ℕ = c.args.bytes.now in
    let p : Pages = pages_of page c.args.rights bytes in
    let free = free-words (words_of own shared) page c.args.rights bytes c.requires.whole c.requires.range (λ a low high. ap (λ (m : Memory). get m a) c.self.view_is ∙ c.requires.free a low high) in
    let adds : Adds own p new = subst (λ (q : Pages). Adds own q new) c.in_ok-part.ensures c.in_ok-add.ensures.ok in
    mapped-words (words_of own shared) (words_of new shared) page c.args.rights bytes c.requires.whole c.requires.range (λ n. adds (word_among false shared None n) n (free n) ∙ ap (λ (b : Bool). cond (has_word p n) (Some (word_in b p n)) (words_of own shared n)) (sym c.if-rights.true))
    ∙ ap (λ (m : Memory). mapped m (4096 * page) c.args.rights bytes) c.self.view_is

pub returns-in_ok-insert-clause-ok : goal.returns-in_ok-insert-clause-ok
returns-in_ok-insert-clause-ok c =
    let own : List Pages = c.self.inside.own in
    let shared : List Pages = map (λ a. a.value) c.self.inside.shared.items in
    let page : ℕ = c.args.first_page in
    let bytes : List ℕ = c.args.bytes.now in
    let p : Pages = pages_of page c.args.rights bytes in
    let free = free-words (words_of own shared) page c.args.rights bytes c.requires.whole c.requires.range (λ a low high. ap (λ (m : Memory). get m a) c.self.view_is ∙ c.requires.free a low high) in
    ap (λ (ps : List Pages). memory_of_words (words_of own ps)) (ap (map (λ a. a.value)) c.in_ok-insert.ensures.items ∙ ap (λ (q : Pages). q ∷ shared) (c.in_ok-new.ensures.ok ∙ c.in_ok-part.ensures))
    ∙ mapped-words (words_of own shared) (words_of own (p ∷ shared)) page c.args.rights bytes c.requires.whole c.requires.range (λ n. shared-front own shared p n (free n) ∙ ap (λ (b : Bool). cond (has_word p n) (Some (word_in b p n)) (words_of own shared n)) (sym c.if-rights.false))
    ∙ ap (λ (m : Memory). mapped m (4096 * page) c.args.rights bytes) c.self.view_is
