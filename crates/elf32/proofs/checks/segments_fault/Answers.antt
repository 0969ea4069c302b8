use Rattle.std.proofs.Common.{rules}
use Rattle.elf32.proofs.checks.segments_fault.Goals as goal

-- Without answers these would be proved too; with them, an edit that breaks one is refused sooner.
pub returns-then-has_bad_range : goal.returns-then-has_bad_range
returns-then-has_bad_range c = search rules

pub returns-then-has_overlap : goal.returns-then-has_overlap
returns-then-has_overlap c = search rules

pub returns-then-is_bad_entry : goal.returns-then-is_bad_entry
returns-then-is_bad_entry c = search rules

pub returns-else-is_bad_entry : goal.returns-else-is_bad_entry
returns-else-is_bad_entry c = search rules

pub returns-then-any_past_end : goal.returns-then-any_past_end
returns-then-any_past_end c = search rules
