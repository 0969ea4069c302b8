-- What a crash leaves is what the run says, and it is quiet.
use Rattle.std.proofs.Common.{◌≡◌, ap, sym, subst, rules, ◌∙◌}
use Rattle.disk_model.specs.Runs.{quiet}
use Rattle.disk_model.specs.Storage.{Device, is_quiet}
use Rattle.kernel_laws.specs.Resuming.{IsSound, MayLeave}
use Rattle.kernel_model.specs.Answers.{Kernel, now}
use Rattle.simdisk.specs.Room.{crashed}
use Rattle.kernel.proofs.cores.Core.halt.Goals as goal
use Rattle.kernel.proofs.cores.Core.halt.Goals.{After-crash}

device-is : (c : After-crash) → c.crash.result ≡ quiet (crashed (now c.args.self).storage.device c.args.fill.now)
device-is c =
    let (b, stands, same) = c.into_running.ensures in
    c.crash.ensures b stands ∙ ap (λ (k : Kernel). quiet (crashed (now k).storage.device c.args.fill.now)) same

left-is : (c : After-crash) → MayLeave (now c.args.self) c.crash.result.disk
left-is c =
    subst (λ (d : Device). MayLeave (now c.args.self) d.disk) (sym (device-is c)) (c.fills_are_crashes.ensures (now c.args.self).storage.device c.args.fill.now)

sound-is : (c : After-crash) → IsSound c.args.self.boot
sound-is c = search rules

pub returns-clause-device : goal.returns-clause-device
returns-clause-device c = device-is c

pub returns-clause-quiet : goal.returns-clause-quiet
returns-clause-quiet c = ap is_quiet (device-is c)

pub returns-clause-sound : goal.returns-clause-sound
returns-clause-sound c = sound-is c

pub returns-clause-left : goal.returns-clause-left
returns-clause-left c = left-is c

pub returns-clause-holds : goal.returns-clause-holds
returns-clause-holds c =
    let k : Kernel = c.args.self in
    let sound : IsSound k.boot = sound-is c in
    c.crashes_keep_the_committed.ensures k.boot k.history sound.held sound.programs sound.tapes c.crash.result.disk (left-is c)
