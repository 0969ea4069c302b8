-- The bytes before this place have been filled, and those from it on are still to be.
use Rattle.std.proofs.Common.{◌≡◌, ◌≤◌, ◌++◌, take, drop}
use Rattle.simdisk.specs.Room.{filled}
use Rattle.simdisk.proofs.ranges.fill_ranges.Given as goal

abbrev pub invariant-loop-place : goal.invariant-loop-place
invariant-loop-place l = record {
  few : l.count ≤ l.place;
  whole : take l.place l.disk ++ filled (l.in_flight ++ l.failed) l.fill l.place l.count (drop l.place l.disk) ≡ filled (l.in_flight ++ l.failed) l.fill 0 0 l.fn.disk;
}
