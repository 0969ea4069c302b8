-- What the table of processes keeps of each process, and how its parts change.
use Rattle.std.specs.Prelude.{ℕ, zero, suc, ◌+◌, not, nat_lt, if◌then◌else◌, List, [], ◌∷◌, ◌++◌, length, map, filter, replicate, slice_get, slice_set, Option, Some, None}
use Rattle.kernel_model.specs.State.{Process}
use Rattle.kernel_model.specs.Steps.{set_slots, is_collected}
use Rattle.kernel_model.specs.declared.descriptor.Descriptor.{Descriptor}
use Rattle.kernel_model.specs.declared.descriptor.Descriptor.TheVariants.{Tape, Terminal}
use Rattle.kernel_model.specs.declared.effect.Slot.{Slot}

-- the part of a process that stands beside its machine: what its descriptors stand for, the numbers of its children that it has
-- not collected, by rising number, and its status if it has ended
pub record Part : Type 0 where
  pub descriptors : List (Option Descriptor)
  pub children : List ℕ
  pub status : Option ℕ

-- that part of a process
abbrev pub part_of : Process → Part
part_of p = record { descriptors = p.descriptors; children = p.children; status = p.status }

-- the part of process p, if there is one; it stands at place p - 1
abbrev pub part_at : List Part → ℕ → Option Part
part_at parts zero = None
part_at parts (suc k) = slice_get parts k

-- the place of process p among so many, if it is there
abbrev pub place_in : ℕ → ℕ → Option ℕ
place_in count zero = None
place_in count (suc k) = if nat_lt k count then Some k else None

-- the parts where that of process p is now this one
abbrev pub put_part : List Part → ℕ → Part → List Part
put_part parts zero part = parts
put_part parts (suc k) part = slice_set parts k part

-- the parts where that of process p, if it is there, is now what f makes of it
abbrev pub with_part : List Part → ℕ → Option Part → (Part → Part) → List Part
with_part parts p None f = parts
with_part parts p (Some part) f = put_part parts p (f part)

-- what the descriptors of a process stand for; a process that is not there has none
abbrev pub descriptors_in : Option Part → List (Option Descriptor)
descriptors_in None = []
descriptors_in (Some part) = part.descriptors

-- the children of a process that are left to collect; a process that is not there has none
abbrev pub children_in : Option Part → List ℕ
children_in None = []
children_in (Some part) = part.children

-- how each process has ended, if it has
abbrev pub statuses_of : List Part → List (Option ℕ)
statuses_of parts = map (λ (part : Part). part.status) parts

-- a process at boot: descriptor 0 stands for its tape and 1 for its terminal
abbrev pub boot_part : ℕ → ℕ → Part
boot_part tape terminal = record { descriptors = Some (Tape tape) ∷ Some (Terminal terminal) ∷ replicate 14 None; children = []; status = None }

-- a process after these edits of its descriptors
abbrev pub with_slots : List Slot → Part → Part
with_slots slots part = record part { descriptors = set_slots part.descriptors slots }

-- a process that has collected a child
abbrev pub without_child : ℕ → Part → Part
without_child child part = record part { children = filter (λ (other : ℕ). not (is_collected (Some child) other)) part.children }

-- a process with one more child
abbrev pub with_child : ℕ → Part → Part
with_child child part = record part { children = part.children ++ child ∷ [] }

-- a process once it has ended with a status
abbrev pub ended_part : ℕ → Part → Part
ended_part status part = record part { descriptors = map (λ (d : Option Descriptor). None) part.descriptors; status = Some status }

-- the child of a process that forks
abbrev pub child_part : Part → Part
child_part part = record { descriptors = part.descriptors; children = []; status = None }

-- the parts after a fork of process p, if it is there: the child is the next process by number
abbrev pub after_fork : List Part → ℕ → Option Part → List Part
after_fork parts p None = parts
after_fork parts p (Some part) = put_part parts p (with_child (length parts + 1) part) ++ child_part part ∷ []
