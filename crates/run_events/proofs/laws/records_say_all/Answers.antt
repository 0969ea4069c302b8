-- By the lemmas.
use Rattle.run_events.proofs.Folding.{all-events, all-entries, all-printed, all-changes, all-told}
use Rattle.run_events.proofs.laws.records_say_all.Goals as goal

pub returns-clause-events : goal.returns-clause-events
returns-clause-events c = all-events

pub returns-clause-entries : goal.returns-clause-entries
returns-clause-entries c = all-entries

pub returns-clause-printed : goal.returns-clause-printed
returns-clause-printed c = all-printed

pub returns-clause-changes : goal.returns-clause-changes
returns-clause-changes c = all-changes

pub returns-clause-told : goal.returns-clause-told
returns-clause-told c = all-told
