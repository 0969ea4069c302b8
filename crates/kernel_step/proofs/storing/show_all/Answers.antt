-- One screen more has advanced, and in the end all.
use Rattle.std.proofs.Common.{◌<◌, ℕ, arith, length, get_or}
use Rattle.std.proofs.lemmas.Option.{slice_get-get_or}
use Rattle.kernel_step.specs.Advanced.{IsAdvanced}
use Rattle.held_output.specs.Withheld.{Withheld}
use Rattle.kernel_step.proofs.Moving.{moved-none, moved-one, moved-all}
use Rattle.kernel_step.proofs.storing.show_all.Goals as goal

pub loop-screen-init : goal.loop-screen-init
loop-screen-init c = moved-none (IsAdvanced c.args.committed) c.args.screens.now

pub loop-screen-preserved : goal.loop-screen-preserved
loop-screen-preserved c =
    let x : Withheld ℕ = get_or c.loop-screen.screens c.loop-screen.screen-index c.screen-item.result in
    let within : c.loop-screen.screen-index < length c.loop-screen.screens = omega arith in
    moved-one (IsAdvanced c.args.committed) c.args.screens.now c.loop-screen.screens c.loop-screen.screen-index x c.advance.new.self
    (slice_get-get_or c.loop-screen.screens c.loop-screen.screen-index c.screen-item.result within)
    (record { items = c.advance.ensures.items; committed = c.advance.ensures.committed })
    c.loop-screen.invariant

pub returns : goal.returns
returns c = record {
  count = c.loop-screen.auto.screens;
  each = moved-all (IsAdvanced c.args.committed) c.args.screens.now c.loop-screen.screens c.loop-screen.screen-index (omega arith) c.loop-screen.invariant;
}
