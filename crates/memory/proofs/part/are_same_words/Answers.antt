-- Words are the same where their bytes, one after another, are.
use Rattle.std.proofs.Common.{sym, ap, ◌∙◌}
use Rattle.std.specs.List.{flat_map}
use Rattle.std.proofs.lemmas.Bool.Decides.{Decides-eqb}
use Rattle.std.proofs.lemmas.Slice.Eq.{slice_eq-Decides}
use Rattle.memory.proofs.SameWords.{same_words_from_bytes}
use Rattle.memory.proofs.part.are_same_words.Goals as goal

pub returns : goal.returns
returns c =
    let decides = slice_eq-Decides Decides-eqb _ _ _ c.eq.ensures in (
      λ t. same_words_from_bytes c.args.words.now c.args.others.now c.told-words c.told-others (sym c.as_flattened.ensures.value ∙ decides.0 t ∙ c.as_flattened-2.ensures.value),
      λ e. decides.1 (c.as_flattened.ensures.value ∙ ap (flat_map (λ x. x)) e ∙ sym c.as_flattened-2.ensures.value),
    )
