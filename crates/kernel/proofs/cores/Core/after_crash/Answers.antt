-- What a crash would leave is what the run says, and it is quiet.
use Rattle.std.proofs.Common.{◌≡◌, ap, sym, subst, rules, ◌∙◌}
use Rattle.std.specs.Prelude.{IfOk}
use Rattle.disk_model.specs.Runs.{quiet}
use Rattle.disk_model.specs.Storage.{Device, is_quiet}
use Rattle.kernel_laws.specs.Resuming.{IsSound, MayLeave}
use Rattle.kernel_model.specs.Answers.{Kernel, now}
use Rattle.simdisk.specs.Room.{crashed}
use Rattle.kernel.specs.Booting.{boot_of}
use Rattle.std.proofs.lemmas.Result.{IfOk-weaker}
use Rattle.kernel.proofs.cores.Core.after_crash.Goals as goal
use Rattle.kernel.proofs.cores.Core.after_crash.Goals.{After-after_crash}

device-is : (c : After-after_crash) → IfOk c.after_crash.result (λ (d : Device). d ≡ quiet (crashed (now c.args.self.now).storage.device c.args.fill.now))
device-is c =
    IfOk-weaker c.after_crash.result _ _ (λ d all. all (boot_of c.self.inside.booted.value) c.self.invariant.stands
    ∙ ap (λ (k : Kernel). quiet (crashed (now k).storage.device c.args.fill.now)) c.self.view_is) c.after_crash.ensures

left-by : (c : After-after_crash) (d : Device) → d ≡ quiet (crashed (now c.args.self.now).storage.device c.args.fill.now) → MayLeave (now c.args.self.now) d.disk
left-by c d is =
    subst (λ (v : Device). MayLeave (now c.args.self.now) v.disk) (sym is) (c.fills_are_crashes.ensures (now c.args.self.now).storage.device c.args.fill.now)

sound-is : (c : After-after_crash) → IsSound c.args.self.now.boot
sound-is c = search rules

pub returns-clause-device : goal.returns-clause-device
returns-clause-device c = device-is c

pub returns-clause-quiet : goal.returns-clause-quiet
returns-clause-quiet c = IfOk-weaker c.after_crash.result _ _ (λ d is. ap is_quiet is) (device-is c)

pub returns-clause-sound : goal.returns-clause-sound
returns-clause-sound c = sound-is c

pub returns-clause-left : goal.returns-clause-left
returns-clause-left c = IfOk-weaker c.after_crash.result _ _ (λ d is. left-by c d is) (device-is c)

pub returns-clause-holds : goal.returns-clause-holds
returns-clause-holds c =
    let k : Kernel = c.args.self.now in
    let sound : IsSound k.boot = sound-is c in
    IfOk-weaker c.after_crash.result _ _ (λ d is. c.crashes_keep_the_committed.ensures k.boot k.history sound.held sound.programs sound.tapes d.disk (left-by c d is)) (device-is c)
