-- One that is not among the last ones comes last itself.
use Rattle.std.proofs.Common.{rules, ◌≡◌, ◌-◌, ◌++◌, ◌∷◌, [], length}
use Rattle.footprints.proofs.Placing.{named_last}
use Rattle.footprints.proofs.footprints.name.Goals as goal

pub returns-in-None-clause-named : goal.returns-in-None-clause-named
returns-in-None-clause-named c =
    let last : c.push.new.self.items ≡ c.args.ends.now.items ++ c.append_footprint-placed.result ∷ [] = search rules in
    let at : c.len.result - 1 ≡ length c.args.ends.now.items = search rules in
    named_last c.args.ends.now.items c.push.new.self.items c.args.carriers.now.items _ _ _ _ c.requires.within c.append_footprint-placed.ensures.placed last at
