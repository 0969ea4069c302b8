-- Before any event the tables are within their limits, and each event keeps them so.
use Rattle.kernel_model.proofs.LimitRuns.{run_limits, run_processes, run_tapes, run_files}
use Rattle.kernel_model.proofs.laws.tables_keep_their_limits.Goals as goal

pub returns : goal.returns
returns _ = record { tables = run_limits; processes = run_processes; tapes = run_tapes; files = run_files }
