-- How processes stand, by their tasks.
use Rattle.std.proofs.Common.{◌≡◌, ℕ, suc, ◌+◌, ◌==◌, ◌&&◌, not, Bool, true, false, if◌then◌else◌, List, slice_get, Option, Some, None, is_some, is_none, option_map, refl, sym, ap, subst, ◌∙◌, arith}
use Rattle.kernel_model.specs.Answers.{Kernel, Lending, quantum_out, process_of as process_in, is_lent, now, has_ended}
use Rattle.kernel_model.specs.Loans.{is_waiting, pick, is_over, standing_of}
use Rattle.kernel_model.specs.State.{Process}
use Rattle.kernel_model.specs.World.{Boot, World, run_of}
use Rattle.kernel_model.specs.declared.event.Event.{Event}
use Rattle.kernel_model.specs.declared.standing.Standing.{Standing}
use Rattle.kernel_model.specs.declared.standing.Standing.TheVariants.{Ended, Lent, Waits, Free}
use Rattle.kernel_step.specs.Lending.{next_fit, standing_in}
use Rattle.kernel_step.specs.Represents.{kernel_of, kernel_in, KeepsRun, Represents}
use Rattle.kernel_step.specs.Tasks.{out_of, status_of, count_out}
use Rattle.kernel_step.specs.Tests.{IsTaskOf}
use Rattle.kernel_step.specs.Waiting.{is_asleep}
use Rattle.kernel_step.specs.declared.running.Running.{Running}
use Rattle.kernel_step.specs.declared.system.System.{System}
use Rattle.kernel_step.specs.declared.task.Task.{Task}
use Rattle.kernel_step.proofs.LendKept.{lending-there, loans_out-is, pick-is}
use Rattle.kernel_step.proofs.Turning.{IsProcessOf, process-there}

-- the first that holds of three
abbrev first_held : Bool → Bool → Bool → Standing
first_held ended lent waits = if ended then Ended else if lent then Lent else if waits then Waits else Free

-- a process stands as its task does
pub standing-is : (b : Boot) (r : Running) (tasks : List Task) (pid : ℕ) (t : Task) → Represents b r → tasks ≡ r.tasks.items → IsTaskOf tasks pid t
    → standing_in r.system.served t ≡ standing_of (kernel_in b r) pid
standing-is b r tasks pid t h same task =
    let k : Kernel = kernel_in b r in
    let w : World = run_of b r.history.items in
    let place : ℕ = task.place in
    let each = h.parts.mirrors.each in
    let there : slice_get r.tasks.items place ≡ Some t = subst (λ (ts : List Task). slice_get ts place ≡ Some t) same task.there in
    let number : pid ≡ place + 1 = task.placed.number in
    let of : IsProcessOf w.sync.processes pid t = process-there w r.system.served r.tasks.items pid place t each number there in
    let next : pid ≡ suc place = omega (arith, number) in
    let ended : has_ended (process_in k pid) ≡ is_some (status_of t) = ap (λ (o : Option Process). has_ended o) of.there ∙ ap (λ (o : Option ℕ). is_some o) of.status in
    let lent : is_lent k pid ≡ is_some (out_of t) =
    ap (λ (p : ℕ). is_lent k p) next ∙ ap (λ (o : Option Lending). is_some (quantum_out o)) (lending-there r.tasks.items place t there) in
    let waits : is_waiting pid (now k).log ≡ is_asleep r.system.served t.waited =
    ap (λ (p : ℕ). is_waiting p w.log) number ∙ (each.each place t there).waits in
    sym (
    ap (λ (v : Bool). first_held v (is_lent k pid) (is_waiting pid (now k).log)) ended
    ∙ ap (λ (v : Bool). first_held (is_some (status_of t)) v (is_waiting pid (now k).log)) lent
    ∙ ap (λ (v : Bool). first_held (is_some (status_of t)) (is_some (out_of t)) v) waits
    )

-- what a test for none answers
pub none-by : (o : Option ℕ) (r : Bool) → is_some o ≡ not r → r ≡ is_none o
none-by None true h = refl
none-by None false h = cc
none-by (Some i) true h = cc
none-by (Some i) false h = refl

none-mapped : (o : Option ℕ) → is_none (option_map (λ i. suc i) o) ≡ is_none o
none-mapped None = refl
none-mapped (Some i) = refl

-- a core is over as its tasks are
pub over-is : (b : Boot) (history : List Event) (tasks : List Task) (system : System) (last quantum : ℕ) → KeepsRun b history tasks system
    → is_over (kernel_of b history tasks last) quantum ≡ (count_out tasks == 0 && is_none (next_fit quantum system.served last tasks))
over-is b history tasks system last quantum h =
    let k : Kernel = kernel_of b history tasks last in
    ap (λ (n : ℕ). n == 0 && is_none (pick k quantum)) (loans_out-is b history tasks last)
    ∙ ap (λ (o : Option ℕ). count_out tasks == 0 && is_none o) (pick-is b history tasks system last quantum h)
    ∙ ap (λ (v : Bool). count_out tasks == 0 && v) (none-mapped (next_fit quantum system.served last tasks))
