-- The names of the run's ledgers and of its log, and the pair with which its board opens.
use Rattle.kernel_model.specs.Answers.{now, committed, changes}
use Rattle.executor.proofs.run.Run.to_end.Given as goal

abbrev pub ghosts-on_board-N-Naming : goal.ghosts-on_board-N-Naming
ghosts-on_board-N-Naming g a = record {
  events = a.blanks.events.name;
  ran = a.blanks.ran.name;
  turns = a.blanks.turns.name;
  enters = a.blanks.enters.name;
}

abbrev pub ghosts-on_board-N-Opening : goal.ghosts-on_board-N-Opening
ghosts-on_board-N-Opening g a = record { committed = committed (now a.core); changes = changes (now a.core) }

abbrev pub ghosts-on_board-N-LogName : goal.ghosts-on_board-N-LogName
ghosts-on_board-N-LogName g a = record { book = a.blanks.loans.seen.book }
