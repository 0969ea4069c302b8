use Rattle.std.proofs.Common.{◌≡◌, ◌-◌, length}
use Rattle.journal.specs.Reading.{changes_at}
use Rattle.journal.proofs.Loop.{with_prefix}
use Rattle.journal.proofs.reading.read_changes.Given as goal

abbrev pub invariant-loop : goal.invariant-loop
invariant-loop l = with_prefix l.changes.items (changes_at (length l.bytes - l.counter) l.rest) ≡ changes_at (length l.bytes) l.bytes
