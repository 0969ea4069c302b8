use Rattle.std.proofs.Common.{ap, ◌∙◌}
use Rattle.std.specs.FinMap.{insert}
use Rattle.assembler.proofs.LabelMaps.{one_named}
use Rattle.assembler.specs.Labels.{SpotsByName}
use Rattle.assembler.proofs.labels.Labels.insert.Goals as goal

pub returns-clause-ok : goal.returns-clause-ok
returns-clause-ok c =
    one_named c.self.inside.spots.entries c.insert.new.self.entries c.args.name.now c.args.spot c.in_ok-insert.ensures.updates.0
    ∙ ap (λ (m : SpotsByName). insert m c.args.name.now c.args.spot) c.self.view_is
