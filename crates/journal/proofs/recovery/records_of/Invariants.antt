use Rattle.std.proofs.Common.{◌≡◌, ◌-◌, length, [], None}
use Rattle.journal.specs.Reading.{records_at, opened}
use Rattle.journal.proofs.recovery.records_of.Given as goal

abbrev pub invariant-loop : goal.invariant-loop
invariant-loop l =
    (records_at (length l.half - l.counter) l.files l.rest ≡ records_at (length l.half) [] l.half)
    × (opened l.half ≡ None → l.rest ≡ l.half)
