-- Which calls the search takes as private: by what a call read and wrote, and by what other processes have after it.
use Rattle.std.specs.Prelude.{◌≡◌, ◌==◌, ◌||◌, ◌&&◌, ℕ, suc, nat_lt, Bool, true, false, not, if◌then◌else◌, List, slice_get, Option, Some, None, IfSome, is_some}
use Rattle.std.specs.List.{list_all, list_any}
use Rattle.kernel_model.specs.Entries.{is_among}
use Rattle.kernel_model.specs.declared.carrier.Carrier.{Carrier}
use Rattle.kernel_model.specs.declared.carrier.Carrier.TheVariants.{Proc, File, Names, Pipe, Pipes, Tasks, Tape}
use Rattle.kernel_model.specs.declared.descriptor.Descriptor.{Descriptor}
use Rattle.kernel_model.specs.declared.descriptor.Descriptor.TheVariants as descriptor
use Rattle.kernel_model.specs.declared.effect.Output.{Output}
use Rattle.order_laws.specs.Privacy.{Claim, stands_for_claimed}
use Rattle.processes.specs.Parts.{Part}

-- the terminal for which a descriptor stands, if it stands for one
abbrev pub terminal_of : Option Descriptor → Option ℕ
terminal_of (Some (descriptor.Terminal t)) = Some t
terminal_of _ = None

-- the terminal to which a call of this number may write, where its first argument is a descriptor that stands for this
abbrev pub written_by : ℕ → Option Descriptor → Option ℕ
written_by number d = if number == 2 then terminal_of d else None

-- a call wrote to this terminal, if it wrote to this one
abbrev pub is_terminal : Option ℕ → ℕ → Bool
is_terminal None t = false
is_terminal (Some own) t = own == t

-- an output, if there is one, goes to this terminal
abbrev pub GoesTo : Option ℕ → Option Output → Type 0
GoesTo terminal output = IfSome output (λ o. is_terminal terminal o.terminal ≡ true)

-- what a process claims whose call read these carriers, and wrote to this terminal, if it did
abbrev pub claim_of : ℕ → List Carrier → Option ℕ → Claim
claim_of p reads terminal = record { owner = p; pipes = λ k. is_among (Pipe k) reads; tapes = λ t. is_among (Tape t) reads; terminals = λ t. is_terminal terminal t }

-- a process can have this carrier to itself, where there are so many pipes
abbrev pub may_be_own : ℕ → ℕ → Carrier → Bool
may_be_own p pipes (Proc q) = q == p
may_be_own p pipes (File n) = false
may_be_own p pipes Names = false
may_be_own p pipes (Pipe k) = nat_lt k pipes
may_be_own p pipes Pipes = false
may_be_own p pipes Tasks = false
may_be_own p pipes (Tape t) = true

-- a process with these descriptors and children has something that is claimed, or may still collect the owner
abbrev pub has_claimed : Claim → List (Option Descriptor) → List ℕ → Bool
has_claimed c ds children = list_any (λ d. stands_for_claimed c d) ds || list_any (λ q. q == c.owner) children

-- process q, which has ended so, and has these descriptors and children, has not ended, is not the owner, and has something that is claimed
abbrev pub meets_by : Claim → ℕ → Option ℕ → List (Option Descriptor) → List ℕ → Bool
meets_by c q status ds children = not (q == c.owner) && not (is_some status) && has_claimed c ds children

-- the same of a process, if it is there
abbrev pub meets_claim : Claim → ℕ → Option Part → Bool
meets_claim c q None = false
meets_claim c q (Some z) = meets_by c q z.status z.descriptors z.children

-- The call of process p, which read these carriers beside it, and wrote to this terminal, if it did, is taken as private: of what other processes
-- have after it nothing is claimed.
pub record IsTaken (p : ℕ) (reads : List Carrier) (terminal : Option ℕ) (parts : List Part) (pipes : ℕ) : Type 0 where
  pub own : list_all (λ x. may_be_own p pipes x) reads ≡ true
  pub others : (k : ℕ) → meets_claim (claim_of p reads terminal) (suc k) (slice_get parts k) ≡ false
