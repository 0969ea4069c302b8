use Rattle.state_search.specs.Keys.{has, is_same}
use Rattle.state_search.proofs.KeySets.{set-added}
use Rattle.state_search.proofs.keys.Keys.add.Goals as goal

pub returns-clause-added : goal.returns-clause-added
returns-clause-added c = λ k. set-added (is_same c.args.key k) (has c.args.self.now.set k) (has c.insert.new.self k) (c.in_ok-is_new.ensures.updates.0 k)
