-- What a whole run promises of its processes, and of what is seen of them.
use Rattle.std.specs.Prelude.{◌≡◌, ℕ, ◌+◌, ◌<◌, if◌then◌else◌, List, [], ◌∷◌, length, take, slice_get, count_by, Some, is_some}
use Rattle.machine_model.specs.declared.reply.Reply.{Reply}
use Rattle.machine_model.specs.declared.stop.Stop.TheVariants.{Call}
use Rattle.machine_model.specs.States.{State, run, stopped_at}
use Rattle.machine_model.specs.Replies.{replied}
use Rattle.kernel_model.specs.State.{Process, process_at}
use Rattle.kernel_model.specs.Entries.{Entry}
use Rattle.kernel_model.specs.Paths.{IsDurable}
use Rattle.kernel_model.specs.World.{World, Boot, first_world, sync_run, sync_log}
use Rattle.kernel_model.specs.Shown.{Given, is_made, printed, told, shown, handed, replies_in}
use Rattle.kernel_model.specs.Views.{contents}
use Rattle.kernel_model.specs.Answers.{committed}
use Rattle.kernel_model.specs.declared.event.Event.{Event}

-- A machine comes from one state to another by instructions of the table, but for the calls at which it comes to stand:
-- these get these replies, in order.
abbrev pub ComesTo : State → List Reply → State → Type 0
ComesTo s [] t = (n : ℕ) × ((run n s).state ≡ t)
ComesTo s (r ∷ rs) t = (n : ℕ) × (stopped_at (run n s).state ≡ Some Call) × ComesTo (replied (run n s).state r) rs t

-- process p's replies so far; those of one that was made begin with its parent's before it was, and then 0
abbrev pub replies_to : ℕ → World → List Reply
replies_to p w = replies_in (contents (told p w.log))

-- process p came from its first state to where it stands by the replies that it got
pub record IsRunOn (w : World) (p : ℕ) (first : Process) : Type 0 where
  pub process : Process
  pub there : process_at w.sync.processes p ≡ Some process
  pub comes : ComesTo first.state (replies_to p w) process.state

-- from which process of the boot each one comes after one more event, where `before` says it of those before: one that the
-- event made comes from where its parent does
abbrev pub ancestor_with : (ℕ → ℕ) → Entry → ℕ → ℕ
ancestor_with before e p = if is_made e.child p then before e.process else before p

abbrev pub ancestor_from : (ℕ → ℕ) → List Entry → ℕ → ℕ
ancestor_from before [] = before
ancestor_from before (e ∷ es) = ancestor_from (ancestor_with before e) es

-- the process of the boot from which process p comes by forks, which is p itself where none made it
abbrev pub ancestor : ℕ → List Entry → ℕ
ancestor p log = ancestor_from (λ q. q) log p

-- process p comes from one of the boot's, from whose first state it came to this one by the replies that it was told
pub record IsDescended (b : Boot) (w : World) (p : ℕ) (process : Process) : Type 0 where
  pub first : Process
  pub booted : process_at (first_world b).sync.processes (ancestor p w.log) ≡ Some first
  pub comes : ComesTo first.state (replies_to p w) process.state

-- how many of these events made a process
abbrev pub forks : List Entry → ℕ
forks log = count_by (λ (e : Entry). is_some e.child) log

-- What is seen is a prefix of all that was given: the event of each of its elements rests on changes among the first c
-- alone, and the event of the next one, if there is one, does not.
pub record IsLongestPrefix {A : Type 0} (c : ℕ) (all : List (Given A)) (seen : List A) : Type 0 where
  pub count : ℕ
  pub prefix : seen ≡ take count (contents all)
  pub durable : (i : ℕ) (x : Given A) → i < count → slice_get all i ≡ Some x → IsDurable c x.past x.entry
  pub longest : (x : Given A) → slice_get all count ≡ Some x → IsDurable c x.past x.entry → ⊥

-- Whatever events come in whatever order: the state is the synchronous one, and so is the log, which has all changes, all
-- output and all that processes were told. The processes are those of the boot and those that forks made. The registers,
-- memory and count of each of the boot's are what the instruction table gives from its first state with the replies of a
-- kernel that stores each change within its call; and so are those of each process, from the first state of the boot's
-- process from which it comes. Each terminal shows, and each process has been handed, exactly the longest prefix that rests on
-- committed changes alone.
pub record IsSynchronous (b : Boot) (w : World) (es : List Event) : Type 0 where
  pub sync : w.sync ≡ sync_run (first_world b).sync es
  pub log : w.log ≡ sync_log (first_world b).sync es
  pub booted : (p : ℕ) (first : Process) → process_at (first_world b).sync.processes p ≡ Some first → IsRunOn w p first
  pub processes : (p : ℕ) (process : Process) → process_at w.sync.processes p ≡ Some process → IsDescended b w p process
  pub as_many : length w.sync.processes ≡ length (first_world b).sync.processes + forks w.log
  pub terminals : (t : ℕ) → IsLongestPrefix (committed w) (printed t w.log) (shown w t)
  pub traces : (p : ℕ) → IsLongestPrefix (committed w) (told p w.log) (handed w p)
