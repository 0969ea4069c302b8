-- The layout says how many program headers there are.
use Rattle.std.proofs.Common.{sym, ◌∙◌}
use Rattle.elf32.proofs.FirstFaults.{layout-count}
use Rattle.elf32.proofs.checks.header_fault.Goals as goal

pub returns-else-file-from-clause-some : goal.returns-else-file-from-clause-some
returns-else-file-from-clause-some c = rw (← c.read_file_header-header.ensures) (layout-count c.read_file_header-header.result (sym c.has_bad_layout.ensures ∙ c.if-has_bad_layout.false)).0

pub returns-else-file-from-clause-few : goal.returns-else-file-from-clause-few
returns-else-file-from-clause-few c = rw (← c.read_file_header-header.ensures) (layout-count c.read_file_header-header.result (sym c.has_bad_layout.ensures ∙ c.if-has_bad_layout.false)).1
