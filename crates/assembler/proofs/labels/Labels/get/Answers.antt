use Rattle.std.proofs.Common.{sym, ap, ◌∙◌}
use Rattle.std.specs.FinMap.{get}
use Rattle.assembler.proofs.LabelMaps.{get_named}
use Rattle.assembler.specs.Labels.{SpotsByName}
use Rattle.assembler.proofs.labels.Labels.get.Goals as goal

pub returns : goal.returns
returns c =
    c.copied.ensures ∙ c.get.ensures.value ∙ sym (get_named c.self.inside.spots.entries c.args.name.now)
    ∙ ap (λ (m : SpotsByName). get m c.args.name.now) c.self.view_is
