-- What is gone after the first events is gone after the others.
use Rattle.std.proofs.Common.{◌≡◌, false, sym, subst}
use Rattle.disk_model.specs.Numbers.{lives}
use Rattle.kernel_model.specs.World.{World, first_world, after}
use Rattle.kernel_model.proofs.Gone.{dead_gone, gone_dead, gone_after}
use Rattle.kernel_model.proofs.Runs.{after-after}
use Rattle.kernel_model.proofs.LimitRuns.{run_limits}
use Rattle.kernel_model.proofs.laws.files_stay_gone.Goals as goal

pub returns : goal.returns
returns _ b es more n given dead =
    let gone = dead_gone (after (first_world b) es).sync.files n (run_limits b es).numbered given dead in
    subst (λ (w : World). lives w.sync.files n ≡ false) (sym (after-after (first_world b) es more))
    (gone_dead (after (after (first_world b) es) more).sync.files n (gone_after more (after (first_world b) es) n gone))
