-- The bytes before all ranges, one more byte, in a range or not, and the bytes after all ranges.
use Rattle.std.proofs.Common.{◌≡◌, ℕ, refl, sym, ap, ◌∙◌, arith, length, take, drop, false, ◌+◌, ◌<◌, ◌++◌}
use Rattle.simdisk.specs.Room.{in_range, filled}
use Rattle.simdisk.proofs.Filling.{fill_byte, keep_byte, filled_on, filled_prefix, filled_end, in_neither}
use Rattle.simdisk.proofs.ranges.fill_ranges.Goals as goal
use Rattle.simdisk.proofs.ranges.fill_ranges.Goals.{then-is_in_either, else-is_in_either}

pub loop-place-preserved : goal.loop-place-preserved
loop-place-preserved c =
    let few = c.loop-place.invariant.few in
    let inside : c.loop-place.place < length c.loop-place.disk = omega arith in
    record {
      few = elim c.if-is_in_either.branch [ then-is_in_either w ↦ omega arith | else-is_in_either w ↦ omega arith ];
      whole = elim c.if-is_in_either.branch [
        | then-is_in_either w ↦ filled_on (c.args.in_flight.now ++ c.args.failed.now) c.args.fill.now c.loop-place.place _ _ _ _ _ w.disk-is w.count-is
            (fill_byte _ _ _ _ _ _ inside c.loop-place.invariant.whole _ refl (sym c.is_in_either.ensures ∙ w.if-is_in_either.true))
        | else-is_in_either w ↦ filled_on (c.args.in_flight.now ++ c.args.failed.now) c.args.fill.now c.loop-place.place _ _ _ _ _ w.disk-is w.count-is
            (keep_byte _ _ _ _ _ _ inside c.loop-place.invariant.whole (sym c.is_in_either.ensures ∙ w.if-is_in_either.false))
      ];
    }

pub loop-place-init : goal.loop-place-init
loop-place-init c =
    let start = c.min-start.result in
    let ps = c.args.in_flight.now ++ c.args.failed.now in
    let m = c.min-start.ensures in
    let outside : (n : ℕ) → n < start → in_range ps (0 + n) ≡ false =
    λ n lt. ap (in_range ps) (let e : 0 + n ≡ n = omega arith in e)
    ∙ in_neither c.args.in_flight.now c.args.failed.now n (c.range_start.ensures n (omega arith)) (c.range_start-2.ensures n (omega arith)) in
    record {
      few = omega arith;
      whole =
          ap (λ (k : ℕ). take start c.args.disk.now ++ filled ps c.args.fill.now k 0 (drop start c.args.disk.now)) (let e : start ≡ 0 + start = omega arith in e)
          ∙ filled_prefix ps c.args.fill.now 0 start c.args.disk.now outside;
    }

pub returns : goal.returns
returns c =
    let m = c.min-end.ensures in
    let x = c.max.ensures in
    let stopped = c.loop-place-test.false in
    let same = c.loop-place.auto.disk in
    filled_end (c.args.in_flight.now ++ c.args.failed.now) c.args.fill.now c.loop-place.place c.loop-place.count c.loop-place.disk _
    (λ n ge lt. in_neither c.args.in_flight.now c.args.failed.now n (c.range_end.ensures n (omega arith)) (c.range_end-2.ensures n (omega arith)))
    c.loop-place.invariant.whole
