-- Children that have ended.
use Rattle.kernel_model.specs.Rows as rows
use Rattle.processes.specs.declared.table.EndedChild.{EndedChild}

-- a child that has ended, as the table of calls sees it
abbrev pub child_of : EndedChild → rows.EndedChild
child_of e = record { child = e.child; status = e.status }
