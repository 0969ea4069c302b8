use Rattle.journal.proofs.Outcomes.{some_outcome, held_is_sound, one_fault}
use Rattle.journal.proofs.laws.one_outcome.Goals as goal

pub returns-clause-some : goal.returns-clause-some
returns-clause-some c disk size fits = some_outcome disk fits size

pub returns-clause-held_is_sound : goal.returns-clause-held_is_sound
returns-clause-held_is_sound c = held_is_sound

pub returns-clause-one_fault : goal.returns-clause-one_fault
returns-clause-one_fault c = one_fault
