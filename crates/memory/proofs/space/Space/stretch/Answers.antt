-- The bytes of a run stand in the memory, up to where another run begins.
use Rattle.std.proofs.Common.{◌≡◌, ℕ, ◌+◌, ◌/◌, ◌%◌, ◌^◌, ◌<◌, ◌≤◌, Bool, List, length, sym, ap, ◌∙◌, None, Some, Option, map, arith}
use Rattle.std.specs.Prelude.{slice_index}
use Rattle.std.specs.FinMap.{get}
use Rattle.memory_model.specs.Memory.{Memory}
use Rattle.memory_model.specs.Access.{cell_with}
use Rattle.memory_model.specs.declared.access.Rights.{Rights}
use Rattle.memory.specs.Access.{Stand}
use Rattle.memory.specs.Words.{Word, memory_of_words}
use Rattle.memory.specs.Pages.{Pages, bytes_of, word_in, words_of}
use Rattle.memory.proofs.Cells.{get-past, get-cell, not_fitting, fitting}
use Rattle.memory.proofs.space.Space.stretch.Goals as goal

stand-run : (words : ℕ → Option Word) (p : Pages) (write : Bool) (at : ℕ) (bytes : List ℕ) → at + length bytes ≤ 2 ^ 32 → ((j : ℕ) → j < length bytes → words ((at + j) / 4) ≡ Some (word_in write p ((at + j) / 4)))
    → ((j : ℕ) → j < length bytes → slice_index bytes j ≡ slice_index (bytes_of p ((at + j) / 4)) ((at + j) % 4)) → Stand (memory_of_words words) at bytes (record { read = p.read; write = write; execute = p.execute })
stand-run words p write at bytes range found same j h =
    get-cell words _ (at + j) (omega arith) (found j h)
    ∙ ap (λ (b : ℕ). Some (cell_with (record { read = p.read; write = write; execute = p.execute }) b)) (sym (same j h))

pub returns-in_err-at-clause-missing : goal.returns-in_err-at-clause-missing
returns-in_err-at-clause-missing c =
    let words : ℕ → Option Word = words_of c.self.inside.own (map (λ a. a.value) c.self.inside.shared.items) in
    rw c.from_residual.ensures (sym (ap (λ (m : Memory). get m c.args.at) c.self.view_is) ∙ get-past words c.args.at (not_fitting c.try_from.result _ c.args.at c.try_from.ensures c.in_err-at.ensures.value))

pub returns-in_err-part-clause-missing : goal.returns-in_err-part-clause-missing
returns-in_err-part-clause-missing c =
    let words : ℕ → Option Word = words_of c.self.inside.own (map (λ a. a.value) c.self.inside.shared.items) in
    let fits = fitting c.try_from.result _ c.args.at c.in_ok-at.at c.try_from.ensures c.in_ok-at.ensures.value in
    let missing : words (c.args.at / 4) ≡ None =
    sym (c.in_err-part.ensures.word ∙ (λ i. words_of c.self.inside.own (map (λ a. a.value) (c.as_slice-shared.ensures.value i)) (fits.1 i / 4))) in
    rw c.from_residual-in_err-part.ensures (sym (ap (λ (m : Memory). get m c.args.at) c.self.view_is) ∙ get-cell words None c.args.at fits.0 missing)

stand-as : (m n : Memory) (a b : ℕ) (bytes : List ℕ) (r s : Rights) → m ≡ n → a ≡ b → r ≡ s → Stand m a bytes r → Stand n b bytes s
stand-as m n a b bytes r s e f g stand j h = (λ i. get (sym e i) (sym f i + j)) ∙ stand j h ∙ ap (λ (x : Rights). Some (cell_with x (slice_index bytes j))) g

pub returns-clause-bytes : goal.returns-clause-bytes
returns-clause-bytes c =
    let own : List Pages = c.self.inside.own in
    let shared : List Pages = map (λ a. a.value) c.self.inside.shared.items in
    let at : ℕ = c.in_ok-at.at in
    let p : Pages = c.in_ok-part.part.now in
    let write : Bool = c.in_ok-part.write in
    let bytes : List ℕ = c.bytes.result.now in
    let fits = fitting c.try_from.result _ c.args.at at c.try_from.ensures c.in_ok-at.ensures.value in
    let found : (j : ℕ) → j < length bytes → words_of own shared ((at + j) / 4) ≡ Some (word_in write p ((at + j) / 4)) =
    λ j h.
    let low : at / 4 ≤ (at + j) / 4 = omega arith in
    let high : (at + j) / 4 < c.next_start_shared-end.result = c.bytes.ensures.within j h in
    (λ i. words_of own (map (λ a. a.value) (sym c.as_slice-shared.ensures.value i)) ((at + j) / 4))
    ∙ c.in_ok-part.ensures.along ((at + j) / 4) (c.next_start.ensures.none ((at + j) / 4) low (omega (arith, high, c.next_start_shared-end.ensures.within))) (c.next_start_shared-end.ensures.none ((at + j) / 4) low high) (c.bytes.ensures.here j h) in
    stand-as (memory_of_words (words_of own shared)) c.args.self.now at c.args.at bytes (record { read = p.read; write = write; execute = p.execute }) _ c.self.view_is fits.1
    (λ i. record { read = (sym c.part.view_is i).read; write = write; execute = (sym c.part.view_is i).execute })
    (stand-run (words_of own shared) p write at bytes c.bytes.ensures.range found c.bytes.ensures.bytes)
