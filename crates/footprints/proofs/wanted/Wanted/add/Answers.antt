-- The set has one key more.
use Rattle.std.proofs.Common.{◌||◌, ◌∷◌, [], List, ap, ◌∙◌}
use Rattle.kernel_model.specs.declared.carrier.Carrier.{Carrier}
use Rattle.kernel_model.specs.Entries.{is_among}
use Rattle.footprints.proofs.Same.{has-more}
use Rattle.footprints.proofs.wanted.Wanted.add.Goals as goal
use Rattle.footprints.proofs.wanted.Wanted.add.Goals.{in-Ok, in-Err}

pub returns : goal.returns
returns c = elim c.match-insert.branch [
  | in-Ok w ↦ rw w.result-is (λ x. has-more c.self.inside.carriers.keys c.insert.new.self.keys c.args.carrier w.in-Ok.ensures.updates.0 x
      ∙ ap (λ (ks : List Carrier). is_among x ks || is_among x (c.args.carrier ∷ [])) c.self.view_is)
  | in-Err w ↦ rw w.result-is tt
]
