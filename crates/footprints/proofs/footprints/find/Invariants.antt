-- None of those that were looked at is this one.
use Rattle.std.proofs.Common.{◌≡◌, ℕ, ◌<◌, ◌≤◌, length, get_or}
use Rattle.footprints.specs.Kept.{footprint, footprint_in, no_ends}
use Rattle.footprints.proofs.footprints.find.Given as goal

abbrev pub invariant-loop-name : goal.invariant-loop-name
invariant-loop-name l = (name : ℕ) → l.name ≤ name → name < length l.ends → footprint_in l.carriers (get_or l.ends name no_ends) ≡ footprint l.reads l.writes → ⊥
