-- The run is named by its own ledgers and its core's pair.
use Rattle.kernel_model.specs.Answers.{now, committed, changes}
use Rattle.worker_cases.proofs.case.play.Given as goal

abbrev pub ghosts-play_named-N-Naming : goal.ghosts-play_named-N-Naming
ghosts-play_named-N-Naming g a = record {
  events = a.blanks.events.name;
  ran = a.blanks.ran.name;
  turns = a.blanks.turns.name;
  enters = a.blanks.enters.name;
}

abbrev pub ghosts-play_named-N-Opening : goal.ghosts-play_named-N-Opening
ghosts-play_named-N-Opening g a = record { committed = committed (now a.core); changes = changes (now a.core) }

abbrev pub ghosts-play_named-N-LogName : goal.ghosts-play_named-N-LogName
ghosts-play_named-N-LogName g a = record { book = a.blanks.loans.seen.book }
