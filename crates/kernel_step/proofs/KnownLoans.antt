-- A known loan and the task that is out on it.
use Rattle.std.proofs.Common.{◌≡◌, ℕ, ◌+◌, List, slice_get, Option, Some, is_some, option_map, sym, ap, ◌∙◌}
use Rattle.machine_model.specs.States.{State}
use Rattle.kernel_model.specs.Answers.{Lending, quantum_out}
use Rattle.kernel_model.specs.Loans.{loans_in}
use Rattle.kernel_model.specs.State.{Process}
use Rattle.kernel_model.specs.World.{Boot, run_of}
use Rattle.kernel_model.specs.declared.event.Event.{Event}
use Rattle.kernel_step.specs.Known.{IsKnownResult, MayBeLoanOf}
use Rattle.kernel_step.specs.Represents.{kernel_of, KeepsRun}
use Rattle.kernel_step.specs.Tasks.{machine_of}
use Rattle.kernel_step.specs.declared.loan.Done.{Done}
use Rattle.kernel_step.specs.declared.system.System.{System}
use Rattle.kernel_step.specs.declared.task.Task.{Task}
use Rattle.kernel_step.proofs.SettleCore.{lending-of, process-in}
use Rattle.kernel_step.proofs.Turning.{IsProcessOf}

-- of a known loan: where the numbers agree, it is the one that the task is out on
pub known-loan : (b : Boot) (history : List Event) (tasks : List Task) (s : System) (last place : ℕ) (t : Task) (d : Done) → KeepsRun b history tasks s
    → d.pid ≡ place + 1 → slice_get tasks place ≡ Some t → IsKnownResult (kernel_of b history tasks last) d → MayBeLoanOf t d
known-loan b history tasks s last place t d h number there known out loans =
    let of : IsProcessOf (run_of b history).sync.processes d.pid t = process-in b history tasks s d.pid place t h number there in
    let lending = lending-of tasks d.pid place t number there in
    let began : Some (machine_of t) ≡ Some d.began.value =
    sym (ap (λ (o : Option Process). option_map (λ (p : Process). p.state) o) of.there ∙ ap (λ (x : State). Some x) of.state)
    ∙ known.began (ap (λ (o : Option Lending). is_some (quantum_out o)) lending ∙ ap (λ (o : Option ℕ). is_some o) out) (ap loans_in lending ∙ loans) in
    cc
