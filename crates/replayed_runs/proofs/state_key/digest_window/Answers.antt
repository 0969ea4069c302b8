-- The moments, or nothing.
use Rattle.std.proofs.Common.{[], refl}
use Rattle.replayed_runs.proofs.Feeding.{fed_none}
use Rattle.replayed_runs.proofs.state_key.digest_window.Goals as goal

pub returns-in-Some : goal.returns-in-Some
returns-in-Some c = (c.digest_moments.ensures.0, (λ none. absurd (let no : ⊥ = cc in no)), c.digest_moments.ensures.1)

pub returns-in-None : goal.returns-in-None
returns-in-None c = ([], (λ none. refl), fed_none c.args.digest.now)
