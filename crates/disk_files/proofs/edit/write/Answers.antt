-- One part more is written.
use Rattle.std.proofs.Common.{◌∙◌, refl, arith}
use Rattle.disk_files.proofs.Places.{more_written, none_written}
use Rattle.disk_files.proofs.edit.write.Goals as goal

pub loop-offset-init : goal.loop-offset-init
loop-offset-init c = record {
  makes = λ first h. h;
  written = none_written c.args.files.now c.args.file c.requires.empty;
  counted = omega arith;
  within = omega arith;
}

pub loop-offset-preserved : goal.loop-offset-preserved
loop-offset-preserved c =
    let formed = c.if-not-may_write.ensures.formed refl in
    let possible = c.if-not-may_write.ensures.possible refl in
    record {
      makes = λ first h. c.in_ok-make.ensures.makes first (c.loop-offset.invariant.makes first h);
      written =
          more_written c.args.files.now c.loop-offset.files c.make.new.files c.args.file c.args.bytes.now c.in_ok-written.written c.loop-offset.offset 1024
          c.loop-offset.invariant.written (c.in_ok-written.ensures ∙ c.part_of-part.ensures) c.loop-offset-test.true c.in_ok-make.ensures.done;
      counted = omega (arith, c.in_ok-make.ensures.counted);
      within = omega (arith, formed.2, possible.1, c.loop-offset.invariant.counted);
    }
