-- What a running kernel shows and hands out is what the run releases.
use Rattle.std.proofs.Common.{◌≡◌, ℕ, Bool, true, false, nat_le, if◌then◌else◌, List, [], ◌∷◌, slice_get, length, map, suc, ◌+◌, Option, Some, is_some, refl, sym, ap, subst, ◌∙◌}
use Rattle.std.specs.Prelude.{IsSomeAnd}
use Rattle.kernel_model.specs.Paths.{is_durable}
use Rattle.kernel_model.specs.Shown.{Given, prefix, released, told, handed}
use Rattle.kernel_model.specs.State.{Process, process_at}
use Rattle.kernel_model.specs.Views.{contents}
use Rattle.kernel_model.specs.World.{Boot, World, run_of}
use Rattle.held_output.specs.Withheld.{Withheld, Held, whats, released as released_of}
use Rattle.kernel_step.specs.Represents.{Represents}
use Rattle.kernel_step.specs.Seen.{AreMarked, Withholds}
use Rattle.kernel_step.specs.Tasks.{machine_of}
use Rattle.kernel_step.specs.Tests.{IsTaskOf}
use Rattle.kernel_step.specs.declared.running.Running.{Running}
use Rattle.kernel_step.specs.declared.task.Task.{Task}
use Rattle.kernel_step.proofs.Turning.{IsProcessOf, process-there}

-- ---- what is released
released-step : {A : Type 0} (s t : Bool) (g : Given A) (h : Held A) (gs : List (Given A)) (hs : List (Held A)) → t ≡ s → h.what ≡ g.what
    → whats hs ≡ map (λ (x : Given A). x.what) gs → whats (if t then h ∷ hs else []) ≡ map (λ (x : Given A). x.what) (if s then g ∷ gs else [])
released-step {A} s true g h gs hs e what rest =
    ap (λ (x : A). x ∷ whats hs) what ∙ ap (λ (xs : List A). g.what ∷ xs) rest ∙ ap (λ (b : Bool). map (λ (x : Given A). x.what) (if b then g ∷ gs else [])) e
released-step {A} s false g h gs hs e what rest = ap (λ (b : Bool). map (λ (x : Given A). x.what) (if b then g ∷ gs else [])) e

released-so : {A : Type 0} (c : ℕ) (gs : List (Given A)) (hs : List (Held A)) → AreMarked gs hs → whats (prefix (λ h. nat_le h.mark c) hs) ≡ released c gs
released-so c [] [] m = refl
released-so c [] (h ∷ hs) m = absurd m
released-so c (g ∷ gs) [] m = absurd m
released-so {A} c (g ∷ gs) (h ∷ hs) m =
    released-step (is_durable c g.past g.entry) (nat_le h.mark c) g h (prefix (λ (x : Given A). is_durable c x.past x.entry) gs)
    (prefix (λ (x : Held A). nat_le x.mark c) hs) (m.1.says c) m.0 (released-so c gs hs m.2)

-- what is withheld releases what the run does
pub released-is : {A : Type 0} (c : ℕ) (gs : List (Given A)) (w : Withheld A) → Withholds c gs w → released_of w ≡ released c gs
released-is {A} c gs w h = ap (λ (n : ℕ). whats (prefix (λ (x : Held A). nat_le x.mark n) w.items)) h.committed ∙ released-so c gs w.items h.marked

-- all that is withheld is all that events gave
pub written-is : {A : Type 0} (gs : List (Given A)) (hs : List (Held A)) → AreMarked gs hs → whats hs ≡ contents gs
written-is [] [] m = refl
written-is [] (h ∷ hs) m = absurd m
written-is (g ∷ gs) [] m = absurd m
written-is {A} (g ∷ gs) (h ∷ hs) m = ap (λ (x : A). x ∷ whats hs) m.0 ∙ ap (λ (xs : List A). g.what ∷ xs) (written-is gs hs m.2)

pub marked-length : {A : Type 0} (gs : List (Given A)) (hs : List (Held A)) → AreMarked gs hs → length hs ≡ length gs
marked-length [] [] m = refl
marked-length [] (h ∷ hs) m = absurd m
marked-length (g ∷ gs) [] m = absurd m
marked-length (g ∷ gs) (h ∷ hs) m = ap (λ n. suc n) (marked-length gs hs m.2)

-- what the task of a process has handed out is what the run hands out of it
pub handed-is : (b : Boot) (r : Running) (tasks : List Task) (pid : ℕ) (t : Task) → Represents b r → tasks ≡ r.tasks.items → IsTaskOf tasks pid t
    → released_of t.trace ≡ handed (run_of b r.history.items) pid
handed-is b r tasks pid t h same of =
    let w : World = run_of b r.history.items in
    let there : slice_get r.tasks.items of.place ≡ Some t = subst (λ (ts : List Task). slice_get ts of.place ≡ Some t) same of.there in
    released-is w.storage.committed (told (of.place + 1) w.log) t.trace (h.parts.mirrors.each.each of.place t there).trace
    ∙ ap (λ (p : ℕ). handed w p) (sym of.placed.number)

-- what the task of a process was told is what the run told it
pub told-is : (b : Boot) (r : Running) (tasks : List Task) (pid : ℕ) (t : Task) → Represents b r → tasks ≡ r.tasks.items → IsTaskOf tasks pid t
    → whats t.trace.items ≡ contents (told pid (run_of b r.history.items).log)
told-is b r tasks pid t h same of =
    let w : World = run_of b r.history.items in
    let there : slice_get r.tasks.items of.place ≡ Some t = subst (λ (ts : List Task). slice_get ts of.place ≡ Some t) same of.there in
    written-is (told (of.place + 1) w.log) t.trace.items (h.parts.mirrors.each.each of.place t there).trace.marked
    ∙ ap (λ (p : ℕ). contents (told p w.log)) (sym of.placed.number)

-- ---- the process of a task

-- the task of a process stands for it
pub process-is : (b : Boot) (r : Running) (tasks : List Task) (pid : ℕ) (t : Task) → Represents b r → tasks ≡ r.tasks.items → IsTaskOf tasks pid t
    → IsProcessOf (run_of b r.history.items).sync.processes pid t
process-is b r tasks pid t h same of =
    let w : World = run_of b r.history.items in
    let there : slice_get r.tasks.items of.place ≡ Some t = subst (λ (ts : List Task). slice_get ts of.place ≡ Some t) same of.there in
    process-there w r.system.served r.tasks.items pid of.place t h.parts.mirrors.each of.placed.number there

-- there is such a process
pub there-is : (b : Boot) (r : Running) (tasks : List Task) (pid : ℕ) (t : Task) → Represents b r → tasks ≡ r.tasks.items → IsTaskOf tasks pid t
    → is_some (process_at (run_of b r.history.items).sync.processes pid) ≡ true
there-is b r tasks pid t h same of = ap (λ (o : Option Process). is_some o) (process-is b r tasks pid t h same of).there

-- the task's machine is in the state of the process
pub machine-is : (b : Boot) (r : Running) (tasks : List Task) (pid : ℕ) (t : Task) → Represents b r → tasks ≡ r.tasks.items → IsTaskOf tasks pid t
    → IsSomeAnd (process_at (run_of b r.history.items).sync.processes pid) (λ (p : Process). machine_of t ≡ p.state)
machine-is b r tasks pid t h same of =
    let p : IsProcessOf (run_of b r.history.items).sync.processes pid t = process-is b r tasks pid t h same of in
    subst (λ (o : Option Process). IsSomeAnd o (λ (q : Process). machine_of t ≡ q.state)) (sym p.there) (sym p.state)
