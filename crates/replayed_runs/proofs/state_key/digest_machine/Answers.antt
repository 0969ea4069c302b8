-- The machine of a process that is there, or nothing.
use Rattle.std.proofs.Common.{◌≡◌, ◌∙◌, ◌++◌, Option, Some, None, ap, sym}
use Rattle.std.specs.Prelude.{IsSomeAnd}
use Rattle.kernel_model.specs.Answers.{now}
use Rattle.kernel_model.specs.State.{Process, process_at}
use Rattle.machine_model.specs.States.{State}
use Rattle.state_search.specs.Digests.{number_bytes}
use Rattle.replayed_runs.specs.StateKeys.{machine_bytes}
use Rattle.replayed_runs.proofs.Feeding.{fed_as, fed_both, fed_none}
use Rattle.replayed_runs.proofs.state_key.digest_machine.Goals as goal

there : (o : Option Process) (m : State) → IsSomeAnd o (λ p. m ≡ p.state) → (number_bytes m.architectural.pc ++ number_bytes m.count) ≡ machine_bytes o
there None m is = elim is [ ]
there (Some p) m is = ap (λ (s : State). number_bytes s.architectural.pc ++ number_bytes s.count) is

pub returns-in-Ok : goal.returns-in-Ok
returns-in-Ok c =
    let m = c.in-Ok.machine.now in
    let d0 = c.args.digest.now in
    let d1 = c.number.new.self in
    let d2 = c.number-in-Ok.new.self in
    fed_as d0 d2 _ _ (there (process_at (now c.args.core.now).sync.processes c.args.pid) m c.in-Ok.ensures.machine)
    (fed_both d0 d1 d2 (number_bytes m.architectural.pc) (number_bytes m.count) (fed_as d0 d1 _ _ (ap number_bytes (c.from.ensures ∙ c.pc.ensures.value)) c.number.ensures)
    (fed_as d1 d2 _ _ (ap number_bytes c.count.ensures) c.number-in-Ok.ensures))

pub returns-in-Err : goal.returns-in-Err
returns-in-Err c = fed_as c.args.digest.now c.args.digest.now _ _ (ap machine_bytes (sym c.in-Err.ensures.none.1)) (fed_none c.args.digest.now)
