-- The word of the first shared run, where no own run has it.
use Rattle.std.proofs.Common.{◌≡◌, ℕ, sym, ap, ◌∙◌, None, Some, Option, List, map, true, false, subst, Bor, IfSome}
use Rattle.memory.specs.Words.{Word, IsReadable}
use Rattle.memory.specs.Pages.{Pages, has_word, bytes_of, word_in, word_among}
use Rattle.memory.proofs.Places.{only-near, shared-first}
use Rattle.memory.proofs.place.word_near.Goals as goal

readable : (w : Option Word) (p : Pages) (n : ℕ) (r : Option (Bor (List ℕ))) → p.read ≡ true → (has_word p n ≡ true → w ≡ Some (word_in false p n)) → IfSome r (λ b. has_word p n ≡ true) → IfSome r (λ b. b.now ≡ bytes_of p n) → IfSome r (λ b. IsReadable w b.now)
readable w p n None may found here is = tt
readable w p n (Some b) may found here is = subst (λ o. IsReadable o b.now) (sym (found here)) (may, sym is)

pub returns-in-len1-up-clause-here : goal.returns-in-len1-up-clause-here
returns-in-len1-up-clause-here c =
    let p : Pages = c.deref-in-len1-up.result.now in
    let item : p ≡ c.part-item.result.value = c.deref-in-len1-up.ensures in
    let rest : Option Word = word_among false (map (λ a. a.value) c.args.shared.now) None c.args.n in
    readable _ p c.args.n c.word.result (ap (λ (q : Pages). q.read) (item ∙ sym c.deref.ensures ∙ sym c.behind-part.view_is) ∙ c.if-deref.true)
    (λ has.
    only-near c.args.own.now rest c.args.n (c.are_all_near.ensures c.if-are_all_near.true) c.in_default.ensures.missing
    ∙ shared-first (λ a. a.value) c.args.shared.now c.part-item.result None c.args.n c.in-len1-up.len_at_least c.part-item.is (ap (λ (q : Pages). has_word q c.args.n) (sym item) ∙ has)
    ∙ ap (λ (q : Pages). Some (word_in false q c.args.n)) (sym item))
    c.word.ensures.here c.word.ensures.bytes
