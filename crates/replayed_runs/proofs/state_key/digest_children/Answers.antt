-- How many there are, and each.
use Rattle.replayed_runs.specs.StateKeys.{numbers_bytes}
use Rattle.replayed_runs.proofs.Feeding.{fed_both}
use Rattle.replayed_runs.proofs.state_key.digest_children.Goals as goal

pub returns : goal.returns
returns c = fed_both c.args.digest.now c.number.new.self c.digest_numbers.new.digest _ (numbers_bytes c.args.children.now) c.number.ensures c.digest_numbers.ensures
