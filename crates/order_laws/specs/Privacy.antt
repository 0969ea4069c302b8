-- Which calls are private: no other process can tell when they are made.
use Rattle.std.specs.Prelude.{◌≡◌, ℕ, ◌==◌, ◌≤◌, Bool, true, false, length, Option, Some, None, IfSome, is_some}
use Rattle.std.specs.List.{AllByRecursion}
use Rattle.kernel_model.specs.State.{SyncState, Process, process_at}
use Rattle.kernel_model.specs.declared.carrier.Carrier.{Carrier}
use Rattle.kernel_model.specs.declared.carrier.Carrier.TheVariants.{Proc, File, Names, Pipe, Pipes, Tasks, Tape}
use Rattle.kernel_model.specs.declared.descriptor.Descriptor.{Descriptor}
use Rattle.kernel_model.specs.declared.descriptor.Descriptor.TheVariants as descriptor
use Rattle.kernel_model.specs.declared.descriptor.PipeEnd.{PipeEnd}
use Rattle.kernel_model.specs.declared.descriptor.PipeEnd.TheVariants as pipe_end
use Rattle.kernel_model.specs.declared.event.Event.TheVariants.{Enter}
use Rattle.order_laws.specs.Moves.{Seen, label_in, writes_some}

-- a process, and pipes, tapes and terminals that it has to itself
pub record Claim : Type 0 where
  pub owner : ℕ
  pub pipes : ℕ → Bool
  pub tapes : ℕ → Bool
  pub terminals : ℕ → Bool

-- a carrier is claimed: of files, of names and of numbers none is
abbrev pub is_claimed : Claim → Carrier → Bool
is_claimed c (Proc p) = p == c.owner
is_claimed c (File n) = false
is_claimed c Names = false
is_claimed c (Pipe k) = c.pipes k
is_claimed c Pipes = false
is_claimed c Tasks = false
is_claimed c (Tape t) = c.tapes t

-- a descriptor stands for something that is claimed
abbrev pub is_claimed_by_end : Claim → PipeEnd → Bool
is_claimed_by_end c (pipe_end.Read k) = c.pipes k
is_claimed_by_end c (pipe_end.Write k) = c.pipes k

abbrev pub stands_for_claimed : Claim → Option Descriptor → Bool
stands_for_claimed c None = false
stands_for_claimed c (Some (descriptor.Tape t)) = c.tapes t
stands_for_claimed c (Some (descriptor.Terminal t)) = c.terminals t
stands_for_claimed c (Some (descriptor.File file offset writes)) = false
stands_for_claimed c (Some (descriptor.Pipe end)) = is_claimed_by_end c end

-- a process leaves alone what is claimed: none of its descriptors stands for it, and the owner is none of its children
pub record LeavesAlone (c : Claim) (z : Process) : Type 0 where
  pub descriptors : AllByRecursion (λ (d : Option Descriptor). stands_for_claimed c d ≡ false) z.descriptors
  pub children : AllByRecursion (λ (q : ℕ). (q == c.owner) ≡ false) z.children

-- Every process but the owner leaves alone what is claimed, or has ended. The owner is there, and the pipes are.
pub record IsClaimed (c : Claim) (s : SyncState) : Type 0 where
  pub others : (q : ℕ) (z : Process) → (q == c.owner) ≡ false → process_at s.processes q ≡ Some z → is_some z.status ≡ false → LeavesAlone c z
  pub owner : c.owner ≤ length s.processes
  pub pipes : (k : ℕ) → length s.pipes ≤ k → c.pipes k ≡ false

-- The call at which process p stands is private: what it reads and writes the process has to itself.
pub record IsPrivate (s : Seen) (p : ℕ) : Type 0 where
  pub claim : Claim
  pub owner : claim.owner ≡ p
  pub claimed : IsClaimed claim s.sync
  pub reads : AllByRecursion (λ (x : Carrier). is_claimed claim x ≡ true) (label_in s (Enter p)).reads
  pub output : IfSome (label_in s (Enter p)).output (λ o. claim.terminals o.terminal ≡ true)
  pub works : writes_some (label_in s (Enter p)) ≡ true
