-- The cell at an address, by the word that it lies in.
use Rattle.std.proofs.Common.{◌≡◌, ℕ, ◌/◌, ◌%◌, sym, ap, ◌∙◌, None, Some, Option, map}
use Rattle.std.specs.Prelude.{option_map}
use Rattle.std.specs.FinMap.{get}
use Rattle.memory_model.specs.Memory.{Memory, Cell}
use Rattle.memory_model.specs.declared.access.Rights.{Rights}
use Rattle.memory.specs.Words.{Word, cell_of}
use Rattle.memory.specs.Pages.{word_in, words_of}
use Rattle.memory.proofs.Cells.{get-past, get-cell, not_fitting, fitting}
use Rattle.memory.proofs.space.Space.cell.Goals as goal

abbrev as_cell : (ℕ × Rights) → Cell
as_cell c = record { byte = c.0; rights = c.1 }

pub returns-in_err-at-clause-cell : goal.returns-in_err-at-clause-cell
returns-in_err-at-clause-cell c =
    let words : ℕ → Option Word = words_of c.self.inside.own (map (λ a. a.value) c.self.inside.shared.items) in
    ap (option_map as_cell) c.from_residual.ensures
    ∙ sym (get-past words c.args.at (not_fitting c.try_from.result _ c.args.at c.try_from.ensures c.in_err-at.ensures.value))
    ∙ ap (λ (m : Memory). get m c.args.at) c.self.view_is

pub returns-in_err-part-clause-cell : goal.returns-in_err-part-clause-cell
returns-in_err-part-clause-cell c =
    let words : ℕ → Option Word = words_of c.self.inside.own (map (λ a. a.value) c.self.inside.shared.items) in
    let fits = fitting c.try_from.result _ c.args.at c.in_ok-at.at c.try_from.ensures c.in_ok-at.ensures.value in
    let missing : words (c.args.at / 4) ≡ None =
    sym (c.in_err-part.ensures.word ∙ (λ i. words_of c.self.inside.own (map (λ a. a.value) (c.as_slice-shared.ensures.value i)) (fits.1 i / 4))) in
    ap (option_map as_cell) c.from_residual-in_err-part.ensures
    ∙ sym (get-cell words None c.args.at fits.0 missing)
    ∙ ap (λ (m : Memory). get m c.args.at) c.self.view_is

pub returns-clause-cell : goal.returns-clause-cell
returns-clause-cell c =
    let words : ℕ → Option Word = words_of c.self.inside.own (map (λ a. a.value) c.self.inside.shared.items) in
    let fits = fitting c.try_from.result _ c.args.at c.in_ok-at.at c.try_from.ensures c.in_ok-at.ensures.value in
    let found : words (c.args.at / 4) ≡ Some (word_in c.in_ok-part.write c.in_ok-part.part.now (c.args.at / 4)) =
    sym (ap (λ n. Some (word_in c.in_ok-part.write c.in_ok-part.part.now (n / 4))) (sym fits.1) ∙ c.in_ok-part.ensures.word ∙ (λ i. words_of c.self.inside.own (map (λ a. a.value) (c.as_slice-shared.ensures.value i)) (fits.1 i / 4))) in
    (λ i. Some (record { byte = c.byte.ensures i; rights = record { read = (c.part.view_is i).read; write = c.in_ok-part.write; execute = (c.part.view_is i).execute } }))
    ∙ ap (λ n. Some (cell_of (n % 4) (word_in c.in_ok-part.write c.in_ok-part.part.now (n / 4)))) fits.1
    ∙ sym (get-cell words _ c.args.at fits.0 found)
    ∙ ap (λ (m : Memory). get m c.args.at) c.self.view_is
